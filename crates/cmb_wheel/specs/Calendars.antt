-- A calendar: what is told of the ticks from a clock on.
use Rattle.std.specs.Prelude.{◌≡◌, ℕ, ◌<◌, ◌≤◌, ◌⊎◌, ◌↔◌, List, [], ◌∷◌, Contains}
use Rattle.cmb_wheel.specs.declared.event.LevelEvent.{LevelEvent}

-- the events of the ticks from a clock on and below a horizon
pub record Calendar : Type 0 where
  pub horizon : ℕ
  pub clock : ℕ
  pub tells : List LevelEvent

-- the ticks of which it tells are as they were
pub record SameTicks (old new : Calendar) : Type 0 where
  pub horizon : new.horizon ≡ old.horizon
  pub clock : new.clock ≡ old.clock

-- what a calendar has once something is told: that too, where it is below the horizon
abbrev pub Notes : Calendar → Calendar → LevelEvent → Type 0
Notes old new event = (other : LevelEvent) → Contains new.tells other ↔ (Contains old.tells other ⊎ ((other ≡ event) × (event.tick < old.horizon)))

-- the events below a tick were taken out, and the clock is that tick
pub record Takes (upto : ℕ) (old new : Calendar) (taken : List LevelEvent) : Type 0 where
  pub early : (event : LevelEvent) → Contains taken event ↔ (Contains old.tells event × (event.tick < upto))
  pub late : (event : LevelEvent) → Contains new.tells event ↔ (Contains old.tells event × (upto ≤ event.tick))
  pub clock : new.clock ≡ upto
  pub horizon : new.horizon ≡ old.horizon

-- by rising ticks
abbrev pub AreInOrder : List LevelEvent → Type 0
AreInOrder [] = Unit {0}
AreInOrder (event ∷ tells) = ((later : LevelEvent) → Contains tells later → event.tick ≤ later.tick) × AreInOrder tells
