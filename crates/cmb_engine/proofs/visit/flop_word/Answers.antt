use Rattle.std.proofs.Common.{◌≡◌, ◌-◌, if◌then◌else◌, sym, ap₂, ◌∙◌}
use Rattle.cmb_words.specs.Word.{level_at_place}
use Rattle.cmb_engine.specs.Inner.Cells.{seen}
use Rattle.cmb_engine.specs.Inner.Planes.{planes_of}
use Rattle.cmb_engine.specs.Inner.Words.{levels_of}
use Rattle.cmb_engine.proofs.ArrivalFacts.{arrives-at}
use Rattle.cmb_engine.proofs.WordFacts.{levels_of-read}
use Rattle.cmb_engine.proofs.visit.flop_word.Goals as goal

pub returns-clause-from : goal.returns-clause-from
returns-clause-from c = λ place from small.
    let arrival = c.arrival_of-arrival.ensures in
    let sees : level_at_place c.get.result (place - c.args.pin.delay) ≡ seen (levels_of c.args.words.now) place c.args.pin =
    sym (levels_of-read c.args.words.now c.args.pin.net c.get.result (place - c.args.pin.delay) c.requires.net (c.get.ensures (planes_of c.get.result))) in
    c.held.ensures.from place from small
    ∙ ap₂ (λ b level. if b then level else level_at_place c.held.result (place - 1))
    (sym (arrives-at c.arrival_of-arrival.result c.args.to c.args.first arrival.arrival c.args.clock c.args.pin.delay arrival.clock arrival.delay place from small)) sees
