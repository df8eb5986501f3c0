-- How the changes of some nets are picked out of those of all nets.
use Rattle.std.specs.Prelude.{◌≡◌, ℕ, ◌<◌, List, [], ◌∷◌, Option, None, Some, length, nat_lt, option_map, slice_index, if◌then◌else◌}
use Rattle.cmb_wave.specs.declared.level.Level.{Level}
use Rattle.cmb_words.specs.Changes.{IsWindow, Tells}
use Rattle.cmb_words.specs.declared.changed.Changed.{Changed}
use Rattle.cmb_dump.specs.Shown.{AreAmong, Shown, TellsShown}

-- how many nets there are, those that are chosen of them, and the changes of these, by their places, that were picked last
pub record Picker : Type 0 where
  pub count : ℕ
  pub nets : List ℕ
  pub changes : List Changed

-- the levels of nets by their places in a list
abbrev pub levels_at : (ℕ → ℕ → Level) → List ℕ → ℕ → ℕ → Level
levels_at level nets place = level (slice_index nets place)

-- each net of a list has its place there, and each other net of so many has no place of the list
pub record ArePlaces (count : ℕ) (nets places : List ℕ) : Type 0 where
  pub long : length places ≡ count
  pub back : (place : ℕ) → place < length nets → slice_index places (slice_index nets place) ≡ place
  pub there : (net : ℕ) → net < count → slice_index places net < length nets → slice_index nets (slice_index places net) ≡ net

-- the changes of those nets whose places are below a count, by their places
unfoldable pub picked_of : List ℕ → ℕ → List Changed → List Changed
picked_of places count [] = []
picked_of places count (changed ∷ rest) =
    if nat_lt (slice_index places changed.net) count then record { net = slice_index places changed.net; word = changed.word } ∷ picked_of places count rest
    else picked_of places count rest

-- the nets of a list are among so many, and have their places
pub record ArePicked (nets places : List ℕ) : Type 0 where
  pub among : AreAmong (length places) nets
  pub placed : ArePlaces (length places) nets places

-- the nets that are shown: those of a list if they are picked, and all nets if there is nothing to pick them by
abbrev pub shown_of : Option Picker → Shown
shown_of pick = option_map (λ p. p.nets) pick

-- what is picked of changes
abbrev pub changes_of : Option Picker → List Changed → List Changed
changes_of None changed = changed
changes_of (Some pick) changed = pick.changes

-- what was picked are the changes of its nets among these, whatever the window is
pub record IsTaken (changed : List Changed) (pick : Picker) : Type 0 where
  pub window : (horizon from upto : ℕ) → IsWindow pick.count horizon from upto changed → IsWindow (length pick.nets) horizon from upto pick.changes
  pub tells : (level : ℕ → ℕ → Level) (from upto : ℕ) → TellsShown (Some pick.nets) level pick.count from upto changed → Tells (levels_at level pick.nets) (length pick.nets) from upto pick.changes
