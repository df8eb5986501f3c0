-- Lines: which net each of them follows, and what is told of them when nets changed.
use Rattle.std.specs.Prelude.{◌≡◌, ◌≢◌, ℕ, ◌+◌, ◌-◌, ◌<◌, ◌≤◌, ◌⊎◌, ◌↔◌, List, [], Some, Contains, length, slice_get, slice_index_or}
use Rattle.cmb_wheel.specs.Calendars.{Calendar}
use Rattle.cmb_wheel.specs.declared.event.LevelEvent.{LevelEvent}
use Rattle.cmb_words.specs.declared.changed.Changed.{Changed}
use Rattle.cmb_words.specs.declared.word.Word.{Word}
use Rattle.cmb_words.specs.Word.{level_at_place}
use Rattle.cmb_engine.specs.declared.cell.Pin.{Pin}

-- the line of a number follows a net
abbrev pub Follows : List Pin → ℕ → ℕ → Type 0
Follows lines number net = (line : Pin) × (slice_get lines number ≡ Some line) × (line.net ≡ net)

-- for each of so many nets the numbers of the lines that follow it
pub record AreFollowers (lines : List Pin) (nets : ℕ) (followers : List (List ℕ)) : Type 0 where
  pub count : length followers ≡ nets
  pub exact : (net number : ℕ) → Contains (slice_index_or followers net []) number ↔ Follows lines number net

-- what a word has in a place is told of a slot, so many ticks later
abbrev pub tell_of : Word → ℕ → ℕ → ℕ → ℕ → LevelEvent
tell_of word slot delay to place = record { tick = to + place - 64 + delay; slot = slot; level = level_at_place word place }

-- a tell is of a change of a word, in a place from one on
pub record IsOfChange (word : Word) (slot delay to first : ℕ) (event : LevelEvent) : Type 0 where
  pub place : ℕ
  pub from : first ≤ place
  pub within : place < 64
  pub differs : level_at_place word (place - 1) ≢ level_at_place word place
  pub is : event ≡ tell_of word slot delay to place

-- a tell is of one of some lines, and of a change of a word
pub record IsOfFollower (word : Word) (numbers : List ℕ) (lines : List Pin) (nets to first : ℕ) (event : LevelEvent) : Type 0 where
  pub number : ℕ
  pub line : Pin
  pub among : Contains numbers number
  pub has_number : slice_get lines number ≡ Some line
  pub change : IsOfChange word (nets + number) line.delay to first event

-- a tell is of a line, and of a change of the net that the line follows
pub record IsOfLine (changed : List Changed) (lines : List Pin) (nets to first : ℕ) (event : LevelEvent) : Type 0 where
  pub one : Changed
  pub number : ℕ
  pub line : Pin
  pub among : Contains changed one
  pub has_number : slice_get lines number ≡ Some line
  pub follows : line.net ≡ one.net
  pub change : IsOfChange one.word (nets + number) line.delay to first event

-- what a calendar has once some things are told: those too, where they are below the horizon
abbrev pub NotesEach : (LevelEvent → Type 0) → Calendar → Calendar → Type 0
NotesEach IsNew old new = (event : LevelEvent) → Contains new.tells event ↔ (Contains old.tells event ⊎ (IsNew event × (event.tick < old.horizon)))

-- a line's delay is so long that what it shows of a window is told of the ticks from the calendar's clock on
abbrev pub IsAhead : Calendar → ℕ → ℕ → Pin → Type 0
IsAhead calendar to first line = (line.delay ≤ 1000000) × (calendar.clock + 64 ≤ to + first + line.delay)
