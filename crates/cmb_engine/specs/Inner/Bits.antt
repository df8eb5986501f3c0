-- Sets of numbers by bits: number n is bit n % 64 of word n / 64.
use Rattle.std.specs.Prelude.{◌≡◌, ◌≢◌, ℕ, ◌/◌, ◌%◌, ◌^◌, ◌<◌, ◌≤◌, Bool, true, false, ◌||◌, ◌==◌, List, length, slice_index}
use Rattle.std.specs.Int.{bit_at}

-- whether a number is in the set
unfoldable pub has : List ℕ → ℕ → Bool
has words n = bit_at (slice_index words (n / 64)) (n % 64) == 1

-- no number of [low, high) is
abbrev pub HasNone : List ℕ → ℕ → ℕ → Type 0
HasNone words low high = (m : ℕ) → low ≤ m → m < high → has words m ≡ false

-- the least one at or after n
pub record IsNext (words : List ℕ) (n found : ℕ) : Type 0 where
  pub from : n ≤ found
  pub member : has words found ≡ true
  pub least : HasNone words n found

-- the new set is the old one and n; the words before and after it stay
pub record Inserts (old new : List ℕ) (n : ℕ) : Type 0 where
  pub len : length new ≡ length old
  pub members : (m : ℕ) → has new m ≡ (m == n || has old m)
  pub others : (k : ℕ) → k ≢ n / 64 → slice_index new k ≡ slice_index old k
  pub some : slice_index new (n / 64) ≢ 0

-- a word lost numbers, and the others stay
pub record Lessens (old new : List ℕ) (k : ℕ) : Type 0 where
  pub len : length new ≡ length old
  pub others : (other : ℕ) → other ≢ k → slice_index new other ≡ slice_index old other
  pub less : slice_index new k ≤ slice_index old k

-- the places of a word from one on, as bits
pub record IsAhead (place ahead : ℕ) : Type 0 where
  pub on : (i : ℕ) → place ≤ i → i < 64 → bit_at ahead i ≡ 1
  pub off : (i : ℕ) → i < place → i < 64 → bit_at ahead i ≡ 0

-- where a walk over numbers may be
pub record IsWalk (word place ahead : ℕ) : Type 0 where
  pub word_fits : word ≤ 2 ^ 58
  pub place_fits : place ≤ 64
  pub ahead_is : IsAhead place ahead
