-- Which worker has a cluster.
use Rattle.std.specs.Prelude.{ℕ, ◌%◌}

-- the clusters are dealt out to the workers in turn
abbrev pub worker_of : ℕ → ℕ → ℕ
worker_of workers cluster = cluster % workers
