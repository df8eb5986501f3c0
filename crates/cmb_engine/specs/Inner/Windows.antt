-- What the words of a window tell of waveforms.
use Rattle.std.specs.Prelude.{ℕ, ◌+◌, ◌<◌, ◌≤◌}
use Rattle.cmb_wave.specs.declared.level.Level.{Level}
use Rattle.cmb_design_model.specs.Value.{delayed}

-- the level of a waveform in a place of the window that ends before a tick: at tick to + place - 64, and x before tick 0
abbrev pub in_place : (ℕ → Level) → ℕ → ℕ → Level
in_place level to place = delayed level 64 (to + place)

-- words that end before a tick have a window from a place on: there is a place before it, and no tick of it is below 0
abbrev pub HasWindow : ℕ → ℕ → Type 0
HasWindow to first = (1 ≤ first) × (first < 64) × (64 ≤ to + first) × (to ≤ 1000000)
