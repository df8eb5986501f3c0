-- What the word of a flip-flop holds.
use Rattle.std.specs.Prelude.{◌≡◌, ℕ, ◌-◌, ◌%◌, ◌<◌, ◌≤◌, ◌==◌, ◌&&◌, nat_le, if◌then◌else◌}
use Rattle.cmb_wave.specs.declared.level.Level.{Level}

-- samples arrive at a place and after each whole period that follows; none arrives before the first place that is asked for, and each sees its data in the word
pub record AreSamples (delay arrival period first : ℕ) : Type 0 where
  pub least : 1 ≤ first
  pub most : first < 64
  pub near : delay ≤ first
  pub later : first ≤ arrival
  pub some : 1 ≤ period

-- before the first place a word is as it was; from there on it has, where a sample arrives, the level that its data had the delay before, and
-- elsewhere the level of the place before
pub record Holds (own input held : ℕ → Level) (delay arrival period first : ℕ) : Type 0 where
  pub below : (place : ℕ) → place < first → held place ≡ own place
  pub from : (place : ℕ) → first ≤ place → place < 64
      → held place ≡ (if nat_le arrival place && ((place - arrival) % period == 0) then input (place - delay) else held (place - 1))
