use Rattle.std.proofs.Common.{◌≡◌, ℕ, ◌<◌, ◌≤◌, ◌^◌, min, drop}
use Rattle.cmb_core_cluster.specs.Rows.{AreReady}
use Rattle.cmb_core_cluster.specs.Inner.Processes.{gate_reach}
use Rattle.cmb_core_cluster.proofs.advance.reach_of_gate.Given as goal

abbrev pub invariant-loop-operand : goal.invariant-loop-operand
invariant-loop-operand l = record {
  least : min l.reach (gate_reach l.horizon l.waves (drop l.operand-index l.operands)) ≡ gate_reach l.horizon l.waves l.operands;
  small : l.reach < 2 ^ 32;
  below : l.reach ≤ l.horizon;
  ready : (clock : ℕ) × AreReady l.waves clock (drop l.operand-index l.operands);
}
