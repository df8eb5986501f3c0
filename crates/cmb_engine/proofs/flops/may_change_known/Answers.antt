use Rattle.std.proofs.Common.{◌-◌, sym, ap, ◌∙◌, arith}
use Rattle.std.proofs.lemmas.Bool.{eqb-true, not-false}
use Rattle.cmb_words.specs.Word.{level_at_place}
use Rattle.cmb_engine.proofs.KnownFacts.{by-ones, known-read, masked-same}
use Rattle.cmb_engine.proofs.flops.may_change_known.Goals as goal

pub returns : goal.returns
returns c = λ none clock to place from small arrives.
    known-read c.args.ones.now c.args.pin.net (place - c.args.pin.delay) c.requires.net
    ∙ masked-same _ _ _ (place - c.args.pin.delay) (eqb-true _ _ (not-false _ none)) (c.requires.late (place - c.args.pin.delay) (omega (arith, from, c.requires.delay)) (omega (arith, small)))
    ∙ by-ones c.everywhere-own.result (place - c.args.pin.delay) _ (c.args.first - 1) (omega (arith, small))
    (c.everywhere-own.ensures (place - c.args.pin.delay) (omega (arith, small))
    ∙ c.delayed.ensures 63 (omega (arith, c.requires.begun)) (omega arith)
    ∙ ap (level_at_place c.known.result) (omega (arith, c.requires.begun, c.requires.first))
    ∙ c.known.ensures (c.args.first - 1))
    ∙ sym (known-read c.args.ones.now c.args.slot (c.args.first - 1) c.requires.slot)
