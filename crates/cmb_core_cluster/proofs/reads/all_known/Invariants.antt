use Rattle.std.proofs.Common.{◌≡◌, drop, eqb}
use Rattle.std.specs.List.{list_all}
use Rattle.cmb_core_cluster.specs.Directory.{driven_among}
use Rattle.cmb_core_cluster.proofs.reads.all_known.Given as goal

abbrev pub invariant-loop-slot : goal.invariant-loop-slot
invariant-loop-slot l = list_all (λ wave. eqb wave.clock l.upto) (driven_among (drop l.slot l.nodes) (drop l.slot l.waves)) ≡ list_all (λ wave. eqb wave.clock l.upto) (driven_among l.nodes l.waves)
