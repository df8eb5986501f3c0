-- Flags: a byte for each number, which is zero unless the number's flag is set.
use Rattle.std.specs.Prelude.{◌≡◌, ℕ, ◌*◌, ◌<◌, ◌≤◌, Bool, true, false, not, ◌&&◌, ◌||◌, ◌==◌, All, List, length, slice_index}

-- whether the flag of a number is set
unfoldable pub is_flagged : List ℕ → ℕ → Bool
is_flagged flags k = not (slice_index flags k == 0)

-- no flag of [low, high) is
abbrev pub NoFlags : List ℕ → ℕ → ℕ → Type 0
NoFlags flags low high = (k : ℕ) → low ≤ k → k < high → is_flagged flags k ≡ false

-- the least flag at or after a number
pub record IsNextFlag (flags : List ℕ) (n found : ℕ) : Type 0 where
  pub from : n ≤ found
  pub member : is_flagged flags found ≡ true
  pub least : NoFlags flags n found

-- one more flag is set
pub record Sets (old new : List ℕ) (k : ℕ) : Type 0 where
  pub len : length new ≡ length old
  pub members : (m : ℕ) → is_flagged new m ≡ (m == k || is_flagged old m)

-- one flag is set no more
pub record Clears (old new : List ℕ) (k : ℕ) : Type 0 where
  pub len : length new ≡ length old
  pub members : (m : ℕ) → is_flagged new m ≡ (not (m == k) && is_flagged old m)

-- bytes for so many groups of eight numbers
pub record AreFlags (groups : ℕ) (bytes : List ℕ) : Type 0 where
  pub len : length bytes ≡ 8 * groups
  pub small : All (λ byte. byte < 2) bytes

-- flags say of a set by bits which of its words aren't empty
pub record IsSummary (words flags : List ℕ) : Type 0 where
  pub room : length words ≤ length flags
  pub summed : (k : ℕ) → is_flagged flags k ≡ not (slice_index words k == 0)
