-- In which order the slots of an engine are visited: each has a rank, by which it is marked.
use Rattle.std.specs.Prelude.{◌≡◌, ℕ, ◌<◌, ◌+◌, ◌-◌, ◌^◌, ◌⊎◌, Bool, true, List, Contains, length, slice_index}
use Rattle.cmb_words.specs.Bits.{is_set_at}
use Rattle.cmb_engine.specs.Inner.Bits.{has}

-- the slot of each rank, and the rank of each slot
pub record Order : Type 0 where
  pub slots : List ℕ
  pub ranks : List ℕ

abbrev pub rank_in : Order → ℕ → ℕ
rank_in order slot = slice_index order.ranks slot

-- a slot has got its rank
pub record IsPlaced (order : Order) (slot : ℕ) : Type 0 where
  pub below : rank_in order slot < length order.slots
  pub stands : slice_index order.slots (rank_in order slot) ≡ slot

-- slots get their ranks one after another: one that has none yet has the greatest number in its place
pub record ArePlaced (order : Order) : Type 0 where
  pub some : (slot : ℕ) → slot < length order.ranks → (rank_in order slot ≡ 2 ^ 32 - 1) ⊎ IsPlaced order slot
  pub within : (rank : ℕ) → rank < length order.slots → slice_index order.slots rank < length order.ranks

-- each slot stands at its rank
pub record IsOrder (order : Order) : Type 0 where
  pub stands : (slot : ℕ) → slot < length order.ranks → IsPlaced order slot
  pub within : (rank : ℕ) → rank < length order.slots → slice_index order.slots rank < length order.ranks

-- whether a slot is marked, by its rank
abbrev pub is_marked : Order → List ℕ → ℕ → Bool
is_marked order marks slot = has marks (rank_in order slot)

-- a slot has one of these ranks: some numbers from a first rank on
pub record IsAmong (order : Order) (base : ℕ) (places : List ℕ) (slot : ℕ) : Type 0 where
  pub place : ℕ
  pub listed : Contains places place
  pub inside : base + place < length order.slots
  pub stands : slice_index order.slots (base + place) ≡ slot

-- a slot has one of the ranks that are set in a word
pub record IsAt (order : Order) (base places slot : ℕ) : Type 0 where
  pub place : ℕ
  pub small : place < 64
  pub set : is_set_at places place ≡ true
  pub inside : base + place < length order.slots
  pub stands : slice_index order.slots (base + place) ≡ slot
