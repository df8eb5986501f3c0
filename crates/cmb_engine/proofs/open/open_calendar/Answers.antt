use Rattle.std.proofs.Common.{◌≡◌, ℕ, ◌+◌, List, length, ap, subst, ◌∙◌}
use Rattle.cmb_wave.specs.declared.level.Level.{Level}
use Rattle.cmb_design_model.specs.Exact.{nets_of}
use Rattle.cmb_engine.specs.Inner.Circuits.{Shows}
use Rattle.cmb_engine.specs.Inner.Lines.{NotesEach}
use Rattle.cmb_engine.specs.Inner.Starts.{IsOfInput, IsOfStart}
use Rattle.cmb_engine.specs.Inner.Traces.{trace_of}
use Rattle.cmb_engine.specs.Inner.Words.{levels_of}
use Rattle.cmb_engine.specs.declared.cell.Pin.{Pin}
use Rattle.cmb_engine.specs.declared.role.Role.{Role}
use Rattle.cmb_engine.proofs.OpenFacts.{starts-ahead}
use Rattle.cmb_engine.proofs.open.open_calendar.Goals as goal

pub returns-clause-ahead : goal.returns-clause-ahead
returns-clause-ahead c =
    let design = c.args.design.now in
    let lines : List Pin = c.args.circuit.now.lines.items in
    let roles : List Role = c.args.circuit.now.wiring.roles.items in
    let words : ℕ → ℕ → Level = levels_of c.args.words.now in
    let wiring = c.args.circuit.now.wiring in
    let nets : c.len.result ≡ nets_of design = c.len.ensures.value ∙ ap (λ n. length n.names) c.netlist.ensures in
    let shows : Shows words (trace_of design roles lines) (nets_of design + length lines) 1 =
    subst (λ (n : ℕ). Shows words (trace_of design roles lines) n 1) c.requires.circuit.plan.count c.requires.shows in
    let inputs : NotesEach (IsOfInput design roles) c.in_ok-calendar.calendar c.note_stimuli.new.calendar =
    subst (λ (rs : List Role). NotesEach (IsOfInput design rs) c.in_ok-calendar.calendar c.note_stimuli.new.calendar) c.as_slice.ensures.value c.in_ok-note_stimuli.ensures.notes in
    let starts : NotesEach (IsOfStart words lines (nets_of design)) c.note_stimuli.new.calendar c.note_starts.new.calendar =
    subst (λ (n : ℕ). NotesEach (IsOfStart words lines n) c.note_stimuli.new.calendar c.note_starts.new.calendar) nets
    (subst (λ (ls : List Pin). NotesEach (IsOfStart words ls c.len.result) c.note_stimuli.new.calendar c.note_starts.new.calendar) c.deref.ensures.value c.in_ok-note_starts.ensures.notes) in
    starts-ahead design roles lines wiring.most c.args.circuit.now.width wiring.cells c.requires.circuit.plan words shows
    c.in_ok-calendar.calendar c.note_stimuli.new.calendar c.note_starts.new.calendar c.in_ok-calendar.ensures.tells
    (c.in_ok-calendar.ensures.horizon ∙ c.horizon.ensures.value) c.in_ok-calendar.ensures.clock c.note_stimuli.ensures.ticks c.note_starts.ensures.ticks inputs starts
