use Rattle.std.proofs.Common.{◌≡◌, ◌+◌, List, length, sym, ap, ◌∙◌, arith}
use Rattle.std.proofs.lemmas.Bool.{false≢true}
use Rattle.cmb_design_model.specs.Exact.{nets_of}
use Rattle.cmb_engine.specs.Inner.Planes.{Planes}
use Rattle.cmb_engine.specs.declared.cell.Pin.{Pin}
use Rattle.cmb_engine.proofs.OpenFacts.{words-show}
use Rattle.cmb_engine.proofs.open.open_state.Goals as goal

pub open_calendar-requires-clause-count : goal.open_calendar-requires-clause-count
open_calendar-requires-clause-count c =
    c.in_ok-words.ensures.len ∙ ap (λ (ls : List Pin). nets_of c.args.design.now + length ls) c.deref-2.ensures.value ∙ sym c.requires.plan.count

pub open_calendar-requires-clause-shows : goal.open_calendar-requires-clause-shows
open_calendar-requires-clause-shows c =
    let circuit = c.args.circuit.now in
    words-show c.args.design.now circuit c.in_ok-words.words c.deref.result.now c.deref-2.result.now c.requires c.deref.ensures.value c.deref-2.ensures.value c.in_ok-words.ensures.shows

pub returns-clause-state : goal.returns-clause-state
returns-clause-state c =
    let circuit = c.args.circuit.now in
    let words : List Planes = c.in_ok-words.words in
    let slots : length words ≡ length circuit.wiring.cells =
    c.in_ok-words.ensures.len ∙ ap (λ (ls : List Pin). nets_of c.args.design.now + length ls) c.deref-2.ensures.value ∙ sym c.requires.plan.count in
    record {
      slots = slots;
      live_room = omega (arith, c.in-Ok-all_below.ensures.room, c.len.ensures, slots);
      marks_room = omega (arith, c.in-Ok-new.ensures.room, c.len-2.ensures, slots);
      shows = words-show c.args.design.now circuit words c.deref.result.now c.deref-2.result.now c.requires c.deref.ensures.value c.deref-2.ensures.value c.in_ok-words.ensures.shows;
      quiet = λ slot place small none inside.
          absurd (false≢true (sym none ∙ c.in-Ok-all_below.ensures.all slot (omega (arith, small, c.len.ensures, slots))));
      ahead = c.in-Ok.ensures.ahead;
      begun = omega arith;
      within = c.in-Ok.ensures.begun;
    }
