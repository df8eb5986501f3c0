use Rattle.std.proofs.Common.{◌≡◌}
use Rattle.cmb_count.specs.Clocks.{is_first_clocked}
use Rattle.cmb_count.specs.Findings.{first_nets}
use Rattle.cmb_count.specs.Inner.ClockSets.{AreClocksBelow}
use Rattle.cmb_count.proofs.clock_paths.first_flops.Given as goal

abbrev pub invariant-loop-net : goal.invariant-loop-net
invariant-loop-net l = record {
  nets : l.nets.items ≡ first_nets l.most (is_first_clocked l.design) l.net;
  before : AreClocksBelow l.design l.net l.clocks;
}
