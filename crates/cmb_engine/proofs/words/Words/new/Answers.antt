use Rattle.std.proofs.Common.{ap₂, ◌∙◌}
use Rattle.cmb_engine.specs.Inner.Planes.{planes_in}
use Rattle.cmb_engine.proofs.PlaneFacts.{planes-replicate, words-replicate}
use Rattle.cmb_engine.proofs.words.Words.new.Goals as goal

pub returns : goal.returns
returns c =
    ap₂ planes_in (c.in_ok-vec.ensures.items_if_clones_equal (λ y is. is)) (c.in_ok-vec-2.ensures.items_if_clones_equal (λ y is. is))
    ∙ planes-replicate c.args.count c.args.word.ones c.args.word.unknown

pub invariant_of-result : goal.invariant_of-result
invariant_of-result c =
    rw (c.in_ok-vec.ensures.items_if_clones_equal (λ y is. is), c.in_ok-vec-2.ensures.items_if_clones_equal (λ y is. is))
    (words-replicate c.args.count c.args.word.ones c.args.word.unknown c.args.word.apart)
