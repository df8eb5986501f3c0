-- What visits of a batch of slots leave: those of one level that a word of marks has.
use Rattle.std.specs.Prelude.{◌≡◌, ◌*◌, ℕ, ◌+◌, ◌<◌, ◌≤◌, ◌⊎◌, Bool, true, false, List, [], length, min, slice_index_or}
use Rattle.cmb_wave.specs.declared.level.Level.{Level}
use Rattle.cmb_words.specs.Bits.{is_set_at}
use Rattle.cmb_engine.specs.Inner.Bits.{has, HasNone}
use Rattle.cmb_engine.specs.Inner.Cells.{Cell, AreClosed, AreMarked, IsReady, IsSettled, IsSteadyFrom, IsTrueBelow, KeepsTold, Relies, is_made}
use Rattle.cmb_engine.specs.Inner.Orders.{Order, IsAt}

-- a number is one of the set places of a word, counted from a number on
pub record IsSetAt (base places number : ℕ) : Type 0 where
  pub place : ℕ
  pub small : place < 64
  pub set : is_set_at places place ≡ true
  pub is : number ≡ base + place

-- the set places of a word were taken out of a set of numbers, those of [from, upto) among them
pub record IsTaken (old new : List ℕ) (from upto base places : ℕ) : Type 0 where
  pub on : from < upto
  pub within : upto ≤ 64 * length old
  pub room : length new ≡ length old
  pub left : (m : ℕ) → has old m ≡ true → has new m ≡ false → IsSetAt base places m
  pub passed : (m : ℕ) → from ≤ m → m < upto → has old m ≡ true → IsSetAt base places m

-- the next word of a set with numbers from a word on, as the set places of a machine word: what comes before it has none
pub record IsNextWord (set : List ℕ) (from upto base places : ℕ) : Type 0 where
  pub on : from < upto
  pub within : upto ≤ length set
  pub ends : base + 64 ≡ 64 * upto
  pub none : HasNone set (64 * from) base
  pub members : (place : ℕ) → place < 64 → is_set_at places place ≡ has set (base + place)

-- the words of the slots at some places were made from a place on, one after another, and `news` has the places of those that are
-- other ones than before
pub record Makes (cells : ℕ → Cell) (order : Order) (to first base places news : ℕ) (old new : ℕ → ℕ → Level) : Type 0 where
  pub told : KeepsTold old new cells
  pub same : (slot place : ℕ) → place < 64 → (IsAt order base news slot → ⊥) → new slot place ≡ old slot place
  -- what was settled or was made is settled, where it doesn't rely on a word that is another one
  pub settled : (open_window : Bool) → (open_window ≡ false → AreClosed cells to first)
      → (m : ℕ) → is_made (cells m) ≡ true → IsSettled old to first m (cells m) ⊎ IsAt order base places m
      → ((slot : ℕ) → IsAt order base news slot → Relies open_window (cells m) slot → ⊥) → IsSettled new to first m (cells m)
  -- where words are true below a place they stay so, and those that were made are true at it
  pub below : (truth : ℕ → ℕ → Level) (upto : ℕ) → first ≤ upto → upto < 64 → IsReady old truth cells to first → IsTrueBelow old truth cells upto
      → IsTrueBelow new truth cells upto
  pub truer : (truth : ℕ → ℕ → Level) (upto : ℕ) → first ≤ upto → upto < 64 → IsReady old truth cells to first → IsTrueBelow old truth cells upto
      → (m : ℕ) → is_made (cells m) ≡ true → (old m upto ≡ truth m upto) ⊎ IsAt order base places m → new m upto ≡ truth m upto

-- slots were put among the live ones, and what reads them was marked
pub record Passes (order : Order) (base news : ℕ) (gate_lists flop_lists : List (List ℕ)) (open_window : Bool) (old_marks new_marks old_live new_live : List ℕ) : Type 0 where
  pub room : length new_marks ≡ length old_marks
  pub live_room : length new_live ≡ length old_live
  pub kept : (m : ℕ) → has old_marks m ≡ true → has new_marks m ≡ true
  pub live : (m : ℕ) → has old_live m ≡ true → has new_live m ≡ true
  pub lives : (slot : ℕ) → IsAt order base news slot → has new_live slot ≡ true
  pub gates : (place : ℕ) → place < 64 → is_set_at news place ≡ true → base + place < length order.slots
      → AreMarked (has new_marks) (slice_index_or gate_lists (base + place) [])
  pub flops : open_window ≡ true → (place : ℕ) → place < 64 → is_set_at news place ≡ true → base + place < length order.slots
      → AreMarked (has new_marks) (slice_index_or flop_lists (base + place) [])

-- the words of the slots at some places moved on by so many ticks, and `steady` has the places of such as have one level then; what
-- reads a slot was marked, where its word changes at a place or after it
pub record Moves (readers : ℕ → List ℕ) (base places steady count ticks first : ℕ) (old_marks new_marks : List ℕ) (old new : ℕ → ℕ → Level) : Type 0 where
  pub room : length new_marks ≡ length old_marks
  pub kept : (m : ℕ) → has old_marks m ≡ true → has new_marks m ≡ true
  pub others : (slot place : ℕ) → (IsSetAt base places slot → ⊥) → new slot place ≡ old slot place
  pub moved : (slot place : ℕ) → IsSetAt base places slot → place < 64 → new slot place ≡ old slot (min (place + ticks) 63)
  pub still : (slot : ℕ) → IsSetAt base steady slot → IsSteadyFrom (new slot) 1
  pub news : (slot : ℕ) → IsSetAt base places slot → slot < count
      → IsSteadyFrom (new slot) first ⊎ AreMarked (has new_marks) (readers slot)
