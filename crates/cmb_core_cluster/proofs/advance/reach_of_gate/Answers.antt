use Rattle.std.proofs.Common.{◌≡◌, ◌<◌, ◌+◌, min, arith, length, get_or, drop, ap}
use Rattle.cmb_wave.specs.Wave.{Wave}
use Rattle.cmb_core_cluster.specs.declared.process.ProcessPin.{ProcessPin}
use Rattle.cmb_core_cluster.specs.Inner.Processes.{gate_reach}
use Rattle.cmb_core_cluster.specs.Step.{wave_at}
use Rattle.cmb_core_cluster.proofs.AdvanceLemmas.{gate_reach_le}
use Rattle.cmb_core_cluster.proofs.PinLists.{reach_step, ready_step}
use Rattle.cmb_core_cluster.proofs.advance.reach_of_gate.Goals as goal

pub loop-operand-init : goal.loop-operand-init
loop-operand-init c = record {
  least = omega (arith, gate_reach_le c.args.horizon c.args.waves.now c.args.operands.now);
  small = omega arith;
  below = omega arith;
  ready = c.requires;
}

pub loop-operand-preserved : goal.loop-operand-preserved
loop-operand-preserved c =
    let i = c.loop-operand.operand-index in
    let os = c.args.operands.now in
    let here : i < length os = omega arith in
    let none : ProcessPin = record { net = 0; slot = 0; delay = 0 } in
    let rest : gate_reach c.args.horizon c.args.waves.now (drop i os) ≡ min ((wave_at c.args.waves.now (get_or os i none).net).clock + (get_or os i none).delay) (gate_reach c.args.horizon c.args.waves.now (drop (i + 1) os)) = reach_step c.args.horizon c.args.waves.now os i none here in
    let ready = c.loop-operand.invariant.ready in
    record {
      least = omega (arith, rest, c.loop-operand.invariant.least, c.loop-operand.invariant.small, c.loop-operand.invariant.below, c.clock-known.ensures, ap (λ (w : Wave). w.clock) c.operand_wave.ensures, c.saturating_add.ensures, c.min-reach.ensures);
      small = omega (arith, c.min-reach.ensures, c.loop-operand.invariant.small);
      below = omega (arith, c.min-reach.ensures, c.loop-operand.invariant.below);
      ready = (ready.0, ready_step c.args.waves.now ready.0 os i none here ready.1);
    }
