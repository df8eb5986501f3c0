use Rattle.std.proofs.Common.{◌≡◌, ◌<◌, ℕ, length, [], map, take, get_or}
use Rattle.cmb_core_cluster.specs.Directory.{listed_readers}
use Rattle.cmb_core_cluster.proofs.readers.readers_among.Given as goal

abbrev pub invariant-loop-slot : goal.invariant-loop-slot
invariant-loop-slot l = record {
  count : length l.readers.items ≡ length l.nodes;
  each : (place : ℕ) → place < length l.nodes → get_or (map (λ list. list.items) l.readers.items) place [] ≡ listed_readers l.nodes (take l.slot l.nodes) place;
}
