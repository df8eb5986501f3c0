-- The places of nets in a list.
use Rattle.std.specs.Prelude.{◌≡◌, ℕ, ◌<◌, List, length, slice_index}

-- each net of the list has its place there
pub record ArePlaces (nets places : List ℕ) : Type 0 where
  pub back : (i : ℕ) → i < length nets → slice_index places (slice_index nets i) ≡ i
