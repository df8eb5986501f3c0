-- What is told of slots whose words no cell makes: their changes that lie ahead.
use Rattle.std.specs.Prelude.{◌≡◌, ℕ, ◌+◌, ◌-◌, ◌<◌, ◌≤◌, ◌⊎◌, nat_lt, nat_le, ◌&&◌, ◌==◌, Bool, false, List, [], ◌∷◌, Option, None, Some, slice_get, Contains, if◌then◌else◌}
use Rattle.cmb_wave.specs.declared.level.Level.{Level}
use Rattle.cmb_wheel.specs.Calendars.{AreInOrder}
use Rattle.cmb_wheel.specs.declared.event.LevelEvent.{LevelEvent}
use Rattle.cmb_engine.specs.Inner.Cells.{Cell, is_made}
use Rattle.cmb_engine.specs.declared.cell.Pin.{Pin}

-- the level of a slot at a tick: that of the last tell of it at or before the tick, `held` where there is none
abbrev pub told_level : List LevelEvent → ℕ → Level → ℕ → Level
told_level [] slot held tick = held
told_level (event ∷ tells) slot held tick = told_level tells slot (if event.slot == slot && nat_le event.tick tick then event.level else held) tick

-- a tell is right: it is of a told slot of so many, and says what the slot shows from its tick on
pub record IsRight (trace : ℕ → ℕ → Level) (cells : ℕ → Cell) (count : ℕ) (event : LevelEvent) : Type 0 where
  pub slot : event.slot < count
  pub told : is_made (cells event.slot) ≡ false
  pub level : event.level ≡ trace event.slot event.tick

-- what a slot shows changes at a tick only where a tell says so
abbrev pub IsTold : (ℕ → ℕ → Level) → List LevelEvent → ℕ → ℕ → Type 0
IsTold trace tells slot tick =
    (trace slot (tick - 1) ≡ trace slot tick) ⊎ Contains tells (record { tick = tick; slot = slot; level = trace slot tick })

-- how far ahead of the clock a slot is told: an input to the horizon, a line so far as its delay is long
abbrev pub line_reach : ℕ → Option Pin → ℕ
line_reach horizon None = horizon
line_reach horizon (Some line) = line.delay

unfoldable pub reach_of : ℕ → List Pin → ℕ → ℕ → ℕ
reach_of nets lines horizon slot =
    if nat_lt slot nets then horizon else line_reach horizon (slice_get lines (slot - nets))

-- the tells are those of what the told slots show from a tick on, as far as they are told, but for the given ones
pub record AreTold (trace : ℕ → ℕ → Level) (cells : ℕ → Cell) (gives : ℕ → Bool) (count : ℕ) (reach : ℕ → ℕ) (horizon clock : ℕ) (tells : List LevelEvent) : Type 0 where
  pub right : (event : LevelEvent) → Contains tells event → IsRight trace cells count event × (clock ≤ event.tick)
  pub all : (slot tick : ℕ) → slot < count → is_made (cells slot) ≡ false → gives slot ≡ false → clock ≤ tick → tick < clock + reach slot → tick < horizon
      → IsTold trace tells slot tick

-- the tells of a window's ticks [from, upto), by rising ticks, but those of given slots
pub record AreOfWindow (trace : ℕ → ℕ → Level) (cells : ℕ → Cell) (gives : ℕ → Bool) (count from upto : ℕ) (tells : List LevelEvent) : Type 0 where
  pub right : (event : LevelEvent) → Contains tells event → IsRight trace cells count event × (from ≤ event.tick) × (event.tick < upto)
  pub all : (slot tick : ℕ) → slot < count → is_made (cells slot) ≡ false → gives slot ≡ false → from ≤ tick → tick < upto → IsTold trace tells slot tick
  pub order : AreInOrder tells
