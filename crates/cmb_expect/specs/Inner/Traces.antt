-- The levels of nets as an engine told them last.
use Rattle.std.specs.Prelude.{◌≡◌, ◌+◌, ◌-◌, ◌<◌, ◌≤◌, ℕ, min, List, length, slice_index_or}
use Rattle.cmb_wave.specs.declared.level.Level.{Level}
use Rattle.cmb_words.specs.Word.{level_at_place}
use Rattle.cmb_expect.specs.declared.trace.Trace.{Trace}

-- the level that a trace tells at a tick: its word ends below the tick `upto`, and the last level stays
abbrev pub level_told : Trace → ℕ → Level
level_told trace tick = level_at_place trace.word (min (tick + 64 - trace.upto) 63)

-- it tells a waveform at the ticks of [from, clock) and at the one before
pub record IsTrace (level : ℕ → Level) (from clock : ℕ) (trace : Trace) : Type 0 where
  pub within : trace.upto ≤ clock
  pub told : (tick : ℕ) → from ≤ tick + 1 → tick < clock → level_told trace tick ≡ level tick

-- those of so many nets
pub record AreTraces (level : ℕ → ℕ → Level) (nets from clock : ℕ) (traces : List Trace) : Type 0 where
  pub count : length traces ≡ nets
  pub each : (net : ℕ) (d : Trace) → net < nets → IsTrace (level net) from clock (slice_index_or traces net d)
