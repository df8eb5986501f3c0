use Rattle.std.proofs.Common.{All, IsSome}
use Rattle.cmb_core_cluster.specs.Clusters.{input_slot}
use Rattle.cmb_run_free.proofs.worker.Worker.inputs_from.Given as goal

abbrev pub invariant-loop-net : goal.invariant-loop-net
invariant-loop-net g l = All (λ net. IsSome (input_slot l.fn.self.cluster net)) l.nets.items
