use Rattle.std.proofs.Common.{◌∙◌}
use Rattle.cmb_engine.proofs.PlanFacts.{grows-on, pins-more}
use Rattle.cmb_engine.proofs.plan.collect_pins.Goals as goal

pub loop-i-preserved : goal.loop-i-preserved
loop-i-preserved c = record {
  nets = c.pin.ensures.nets ∙ c.loop-i.invariant.nets;
  grows = grows-on _ _ _ _ _ _ c.loop-i.invariant.grows c.in_ok-pin.ensures.grows;
  pins = pins-more c.args.design.now c.args.net c.args.operands.now c.loop-i.i 0 c.delay.result _ _ _ _ _ _ _ _ c.in_ok-pin.pin
      c.loop-i-test.true c.delay.ensures.value c.pin.ensures.nets c.in_ok-pin.ensures.grows c.loop-i.invariant.pins c.in_ok-pin.ensures.pin c.in_ok-push.ensures.items;
}
