-- The levels that words hold, by net and place.
use Rattle.std.specs.Prelude.{◌≡◌, ℕ, zero, suc, true, false, List, [], ◌∷◌, length}
use Rattle.cmb_wave.specs.declared.level.Level.{Level}
use Rattle.cmb_wave.specs.declared.level.Level.TheVariants.{X}
use Rattle.cmb_engine.specs.Inner.Planes.{Planes}
use Rattle.cmb_words.specs.Bits.{level_in}
use Rattle.cmb_engine.specs.Inner.Bits.{has}

-- the level of a net in a place, x where there is no such net
abbrev pub levels_of : List Planes → ℕ → ℕ → Level
levels_of [] net place = X
levels_of (word ∷ words) zero place = level_in word.ones word.unknown place
levels_of (word ∷ words) (suc net) place = levels_of words net place

-- words were written into, and live and marked slots added: there are as many words and as much room as before, and a slot that
-- isn't live has the word that it had
pub record Writes (old new : List Planes) (old_live new_live old_marks new_marks : List ℕ) : Type 0 where
  pub len : length new ≡ length old
  pub room : length new_marks ≡ length old_marks
  pub live_room : length new_live ≡ length old_live
  pub kept : (m : ℕ) → has old_live m ≡ true → has new_live m ≡ true
  pub same : (m place : ℕ) → has new_live m ≡ false → levels_of new m place ≡ levels_of old m place
  pub marks : (m : ℕ) → has old_marks m ≡ true → has new_marks m ≡ true
