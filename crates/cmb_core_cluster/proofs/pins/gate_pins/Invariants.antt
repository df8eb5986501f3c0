use Rattle.std.proofs.Common.{◌≡◌, ℕ, ◌≤◌, take, drop, length}
use Rattle.cmb_core_cluster.specs.Inner.Arrivals.{pins_at}
use Rattle.cmb_core_cluster.specs.Rows.{AreReady}
use Rattle.cmb_core_cluster.specs.Inner.Processes.{delayed_levels}
use Rattle.cmb_core_cluster.proofs.pins.gate_pins.Given as goal

abbrev pub invariant-loop-operand : goal.invariant-loop-operand
invariant-loop-operand l = record {
  late : (t : ℕ) → l.clock ≤ t → pins_at l.pins.items t ≡ delayed_levels l.waves (take l.operand-index l.operands) t;
  count : length l.pins.items ≡ l.operand-index;
  ready : AreReady l.waves l.clock (drop l.operand-index l.operands);
}
