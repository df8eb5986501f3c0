-- What a share tells ahead.
use Rattle.std.specs.Prelude.{◌≡◌, ℕ, ◌+◌, ◌-◌, ◌<◌, ◌≤◌, ◌⊎◌, true, false, List, [], ◌∷◌, ◌++◌, Contains, length, min}
use Rattle.cmb_wave.specs.declared.level.Level.{Level}
use Rattle.cmb_design_model.specs.declared.rows.Clock.{Clock}
use Rattle.cmb_words.specs.declared.changed.Changed.{Changed}
use Rattle.cmb_engine.specs.Inner.Planes.{Planes}
use Rattle.cmb_words.specs.declared.word.Word.{Word}
use Rattle.cmb_words.specs.Holds.{Holds}
use Rattle.cmb_words.specs.Word.{level_at_place}
use Rattle.cmb_words.specs.Changes.{IsStill, TellsNet, is_among}
use Rattle.cmb_engine.specs.Rows.{arrives_by}
use Rattle.cmb_engine.specs.Inner.Cells.{Cell, cell_at, IsSteadyFrom}
use Rattle.cmb_engine.specs.Inner.Circuits.{MeetsCells, Shows}
use Rattle.cmb_engine.specs.Inner.Words.{levels_of}
use Rattle.cmb_engine.specs.declared.cell.Pin.{Pin}
use Rattle.cmb_engine.specs.declared.group.Group.{Group}

-- the slots of all groups
abbrev pub slots_of : List Group → List ℕ
slots_of [] = []
slots_of (group ∷ groups) = group.flops.items ++ slots_of groups

-- the levels of words so many ticks later, where nothing changes
abbrev pub moved_on : (ℕ → ℕ → Level) → ℕ → ℕ → ℕ → Level
moved_on words ticks slot place = words slot (min (place + ticks) 63)

-- the word of a flip-flop so many ticks later, where samples arrive from a place on
abbrev pub HoldsAhead : (ℕ → ℕ → Level) → (ℕ → Level) → ℕ → ℕ → ℕ → Clock → Pin → Type 0
HoldsAhead words held ticks arrival slot clock pin =
    Holds (moved_on words ticks slot) (moved_on words ticks pin.net) held pin.delay arrival clock.period (64 - ticks)

-- the data of a flip-flop have the last level of its word too, in the last place and as far back as samples were taken that arrive after it
abbrev pub RestsAhead : (ℕ → ℕ → Level) → ℕ → Pin → Type 0
RestsAhead words slot pin = (place : ℕ) → min (64 - pin.delay) 63 ≤ place → place < 64 → words pin.net place ≡ words slot 63

-- a flip-flop's word so many ticks later was added to others, if it changes from the first new place on
pub record AddsFlop (words : ℕ → ℕ → Level) (ticks arrival slot : ℕ) (clock : Clock) (pin : Pin) (old new : List Changed) : Type 0 where
  pub word : Word
  pub holds : HoldsAhead words (level_at_place word) ticks arrival slot clock pin
  pub added : (IsSteadyFrom (level_at_place word) (64 - ticks) × (new ≡ old)) ⊎ (new ≡ old ++ record { net = slot; word = word } ∷ [])

-- each sample that arrives in a window from a place on was taken before it
abbrev pub AreTakenBefore : Clock → ℕ → ℕ → ℕ → Type 0
AreTakenBefore clock delay to first =
    (place : ℕ) → first ≤ place → place < 64 → arrives_by clock delay (to + place - 64) ≡ true → place < first + delay

-- the changes of some slots at the ticks of [from, upto) were added to others
pub record AddsSlots (trace : ℕ → ℕ → Level) (slots : List ℕ) (from upto : ℕ) (old new : List Changed) : Type 0 where
  pub kept : (net : ℕ) → is_among net new ≡ false → is_among net old ≡ false
  pub right : (one : Changed) → Contains new one → Contains old one ⊎ (Contains slots one.net × TellsNet trace from upto one)
  pub others : (slot : ℕ) → Contains slots slot → is_among slot new ≡ false → IsStill (trace slot) from upto

-- the same of whatever trace the cells allow that the words show up to the first of these ticks
abbrev pub AddsAhead : List Cell → List Planes → List ℕ → ℕ → ℕ → List Changed → List Changed → Type 0
AddsAhead cells words slots from upto old new =
    (trace : ℕ → ℕ → Level) → MeetsCells trace (cell_at cells) → Shows (levels_of words) trace (length words) from → AddsSlots trace slots from upto old new
