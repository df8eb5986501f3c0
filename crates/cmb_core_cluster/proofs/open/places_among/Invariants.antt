use Rattle.std.proofs.Common.{◌≡◌, ℕ, None, drop, length, get_or}
use Rattle.cmb_core_cluster.specs.Directory.{place_in}
use Rattle.cmb_core_cluster.proofs.OpeningFacts.{shifted}
use Rattle.cmb_core_cluster.proofs.open.places_among.Given as goal

abbrev pub invariant-loop-place : goal.invariant-loop-place
invariant-loop-place l = record {
  count : length l.places.items ≡ l.count;
  each : (net : ℕ) → get_or l.places.items net None ≡ shifted l.place (place_in (drop l.place l.nets) net);
}
