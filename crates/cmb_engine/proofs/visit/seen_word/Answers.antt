use Rattle.std.proofs.Common.{◌-◌, sym, ◌∙◌}
use Rattle.cmb_engine.specs.Inner.Planes.{planes_of}
use Rattle.cmb_engine.proofs.WordFacts.{levels_of-read}
use Rattle.cmb_engine.proofs.visit.seen_word.Goals as goal

pub returns : goal.returns
returns c = λ place from small.
    c.delayed.ensures place from small
    ∙ sym (levels_of-read c.args.words.now c.args.pin.net c.get.result (place - c.args.pin.delay) c.requires.net (c.get.ensures (planes_of c.get.result)))
