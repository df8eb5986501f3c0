-- Which nets of some changed in a window, by rising number.
use Rattle.std.specs.Prelude.{◌≡◌, ℕ, ◌<◌, Bool, false, true, List, All}
use Rattle.cmb_wave.specs.declared.level.Level.{Level}
use Rattle.cmb_words.specs.declared.changed.Changed.{Changed}
use Rattle.cmb_words.specs.Changes.{RisesWithin, is_among}
use Rattle.cmb_words.specs.Word.{level_at_place}
use Rattle.cmb_engine.specs.Inner.Bits.{has}
use Rattle.cmb_engine.specs.Inner.Cells.{IsSteadyFrom}

-- a net is told with its word
abbrev pub HasWord : (ℕ → ℕ → Level) → Changed → Type 0
HasWord words c = (place : ℕ) → place < 64 → level_at_place c.word place ≡ words c.net place

-- a net's word has another level somewhere from a place on
abbrev pub IsMoved : ℕ → Changed → Type 0
IsMoved first changed = IsSteadyFrom (level_at_place changed.word) first → ⊥

-- a net is wanted, of so many
abbrev pub IsWanted : List ℕ → ℕ → ℕ → Type 0
IsWanted wanted nets net = (net < nets) × (has wanted net ≡ true)

-- the wanted nets below one are collected: those that aren't among the collected ones stay as they are
pub record IsCollected (words : ℕ → ℕ → Level) (wanted : ℕ → Bool) (first upto : ℕ) (changed : List Changed) : Type 0 where
  pub rises : RisesWithin 0 upto changed
  pub right : All (HasWord words) changed
  pub moved : All (IsMoved first) changed
  pub others : (net : ℕ) → net < upto → wanted net ≡ true → is_among net changed ≡ false → IsSteadyFrom (words net) first
