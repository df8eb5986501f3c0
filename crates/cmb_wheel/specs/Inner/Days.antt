-- A calendar's lists: one for each day, which is 64 ticks.
use Rattle.std.specs.Prelude.{◌≡◌, ℕ, ◌/◌, ◌<◌, ◌≤◌, ◌⊎◌, nat_lt, nat_le, List, [], ◌∷◌, ◌++◌, All, Contains, length, slice_index_or}
use Rattle.std.specs.List.{filter}
use Rattle.cmb_wheel.specs.declared.event.LevelEvent.{LevelEvent}

-- the events of all days
abbrev pub tells_of : List (List LevelEvent) → List LevelEvent
tells_of [] = []
tells_of (list ∷ lists) = list ++ tells_of lists

-- there is a list for each day up to the horizon's, each has the events of its day's ticks, and those of the days before the clock's are empty
pub record AreDays (horizon clock : ℕ) (lists : List (List LevelEvent)) : Type 0 where
  pub short : horizon ≤ 1000000
  pub within : clock ≤ horizon
  pub room : horizon / 64 < length lists
  pub placed : (place : ℕ) → All (λ event. event.tick / 64 ≡ place) (slice_index_or lists place [])
  pub past : (place : ℕ) → place < clock / 64 → length (slice_index_or lists place []) ≡ 0

-- the events of a list that are below a tick, and the others
abbrev pub early_of : ℕ → List LevelEvent → List LevelEvent
early_of upto list = filter (λ event. nat_lt event.tick upto) list

abbrev pub late_of : ℕ → List LevelEvent → List LevelEvent
late_of upto list = filter (λ event. nat_le upto event.tick) list

-- an event below a tick stands in the list of one of the days [first, end)
pub record IsEarly (lists : List (List LevelEvent)) (first end upto : ℕ) (event : LevelEvent) : Type 0 where
  pub day : ℕ
  pub from : first ≤ day
  pub before : day < end
  pub among : Contains (slice_index_or lists day []) event
  pub early : event.tick < upto

-- the lists of the days [first, end) have only their events from a tick on any more
pub record Clears (first end upto : ℕ) (old new : List (List LevelEvent)) : Type 0 where
  pub len : length new ≡ length old
  pub cleared : (day : ℕ) → first ≤ day → day < end → slice_index_or new day [] ≡ late_of upto (slice_index_or old day [])
  pub others : (day : ℕ) → (day < first) ⊎ (end ≤ day) → slice_index_or new day [] ≡ slice_index_or old day []
