use Rattle.std.proofs.Common.{◌≡◌}
use Rattle.cmb_design_model.specs.Timing.{flat_delays}
use Rattle.cmb_design_model.proofs.delays.all_delays.Given as goal

abbrev pub invariant-loop-net : goal.invariant-loop-net
invariant-loop-net l = l.flat.items ≡ flat_delays l.netlist l.rows l.net
