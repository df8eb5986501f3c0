use Rattle.std.proofs.Common.{◌≡◌, ℕ, subst, arith}
use Rattle.cmb_design_model.specs.Exact.{nets_of}
use Rattle.cmb_design_model.specs.Value.{value}
use Rattle.cmb_activity.specs.Inner.Tallies.{AreTallies}
use Rattle.cmb_activity.proofs.measure.count_all.Goals as goal

pub returns : goal.returns
returns c =
    subst (λ (k : ℕ). AreTallies (value c.args.design.now) (nets_of c.args.design.now) k c.args.design.now.horizon c.loop-engine.tallies)
    (let e : c.loop-engine.engine.clock ≡ c.args.design.now.horizon = omega (arith, c.loop-engine-test.false, c.clock.ensures.value, c.horizon.ensures.value, c.loop-engine.invariant.1) in e)
    c.loop-engine.invariant.2
