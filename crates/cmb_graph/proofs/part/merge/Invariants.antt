use Rattle.std.proofs.Common.{◌≡◌, ◌++◌, ℕ, List, ◌<◌, vec_len}
use Rattle.std.specs.Prelude.{All}
use Rattle.cmb_graph.proofs.part.merge.Given as goal

abbrev pub invariant-loop-starts : goal.invariant-loop-starts
invariant-loop-starts l = (gone : List ℕ) × (l.initial.starts.items ≡ l.starts.items ++ gone) × All (λ start. l.place < start) gone

abbrev pub decreases-loop-starts : goal.decreases-loop-starts
decreases-loop-starts l = vec_len l.starts
