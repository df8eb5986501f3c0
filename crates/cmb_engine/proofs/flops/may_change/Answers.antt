use Rattle.std.proofs.Common.{◌-◌, sym, ◌∙◌, arith}
use Rattle.cmb_engine.specs.Inner.Planes.{planes_of}
use Rattle.cmb_engine.proofs.WordFacts.{levels_of-read}
use Rattle.cmb_engine.proofs.flops.may_change.Goals as goal

pub returns : goal.returns
returns c = λ none clock to place from small arrives.
    levels_of-read c.args.words.now c.args.pin.net c.get-2.result (place - c.args.pin.delay) c.requires.net (c.get-2.ensures (planes_of c.get-2.result))
    ∙ c.differs_from.ensures.same none (place - c.args.pin.delay) (omega (arith, from, c.requires.delay)) (omega (arith, small))
    ∙ c.everywhere-own.ensures (place - c.args.pin.delay) (omega (arith, small))
    ∙ sym (levels_of-read c.args.words.now c.args.slot c.get.result (c.args.first - 1) c.requires.slot (c.get.ensures (planes_of c.get.result)))
