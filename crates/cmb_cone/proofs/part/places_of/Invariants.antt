use Rattle.std.proofs.Common.{◌≡◌, ◌<◌, ℕ, length, get_or}
use Rattle.cmb_cone.proofs.part.places_of.Given as goal

abbrev pub invariant-loop-i : goal.invariant-loop-i
invariant-loop-i l = record {
  long : length l.places.items ≡ l.count;
  back : (k : ℕ) → k < l.i → get_or l.places.items (get_or l.nets k 0) 0 ≡ k;
}
