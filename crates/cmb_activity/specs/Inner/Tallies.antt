-- What is counted of a net while a run goes on.
use Rattle.std.specs.Prelude.{◌≡◌, ◌+◌, ◌-◌, ◌*◌, ◌^◌, ◌<◌, ◌≤◌, ℕ, List, length, slice_index_or, if◌then◌else◌}
use Rattle.cmb_wave.specs.declared.level.Level.{Level}
use Rattle.cmb_wave.specs.declared.level.Level.TheVariants.{One, X}
use Rattle.cmb_wave.specs.Waveform.{count_below, same_level}
use Rattle.cmb_words.specs.Bits.{is_set_at}
use Rattle.cmb_activity.specs.Activities.{ticks_at}
use Rattle.cmb_activity.specs.declared.tally.Tally.{Tally}

-- at how many ticks below a horizon a waveform has a level, if from a clock on it keeps the level that it has before that
abbrev pub ticks_if_kept : (ℕ → Level) → Level → ℕ → ℕ → ℕ
ticks_if_kept level wanted clock horizon = ticks_at level wanted clock + (if same_level (level (clock - 1)) wanted then horizon - clock else 0)

-- all is counted below a clock, and from there on up to a horizon the ticks of a waveform that keeps its level
pub record IsTally (level : ℕ → Level) (clock horizon : ℕ) (tally : Tally) : Type 0 where
  pub begun : 1 ≤ clock
  pub within : clock ≤ horizon
  pub counts :
      count_below level 1 + tally.counts
      ≡ count_below level clock + ticks_if_kept level One clock horizon * 1048576 + ticks_if_kept level X clock horizon * 1099511627776

-- those of so many nets
pub record AreTallies (level : ℕ → ℕ → Level) (nets clock horizon : ℕ) (tallies : List Tally) : Type 0 where
  pub count : length tallies ≡ nets
  pub each : (net : ℕ) (d : Tally) → net < nets → IsTally (level net) clock horizon (slice_index_or tallies net d)

-- the ticks from a window's beginning on up to the horizon, where the bit before it is set
abbrev pub ticks_before : ℕ → ℕ → ℕ → ℕ
ticks_before bits ticks left = if is_set_at bits (63 - ticks) then ticks + left else 0

-- what was counted up to a clock is no more than it can be, and no less than a word says that ends before a later tick
pub record CanGrow (from upto horizon ones unknown : ℕ) (tally : Tally) : Type 0 where
  pub most : tally.counts < 2 ^ 62
  pub least :
      ticks_before ones (upto - from) (horizon - upto) * 1048576 + ticks_before unknown (upto - from) (horizon - upto) * 1099511627776
      ≤ tally.counts
