-- How active the nets of a run are: the toggle counts and the durations of states of the switching activity format (SAIF, IEEE 1801).
use Rattle.std.specs.Prelude.{◌≡◌, ◌+◌, ◌<◌, ℕ, zero, suc, List, length, slice_index_or, if◌then◌else◌}
use Rattle.cmb_wave.specs.declared.level.Level.{Level}
use Rattle.cmb_wave.specs.declared.level.Level.TheVariants.{Zero, One, X}
use Rattle.cmb_wave.specs.Waveform.{count_below, same_level}
use Rattle.cmb_design_model.specs.Design.{Design}
use Rattle.cmb_design_model.specs.Exact.{nets_of}
use Rattle.cmb_design_model.specs.Value.{value}
use Rattle.cmb_activity.specs.declared.activity.Activity.{Activity}

-- at how many of the ticks below one a waveform has a level
unfoldable pub ticks_at : (ℕ → Level) → Level → ℕ → ℕ
ticks_at level wanted zero = 0
ticks_at level wanted (suc tick) = ticks_at level wanted tick + (if same_level (level tick) wanted then 1 else 0)

-- how often a waveform changes after tick 0 and below a tick, and at how many ticks below it it is 0, 1 and x
pub record IsActivity (level : ℕ → Level) (upto : ℕ) (activity : Activity) : Type 0 where
  pub changes : count_below level upto ≡ count_below level 1 + activity.changes
  pub low : activity.low ≡ ticks_at level Zero upto
  pub high : activity.high ≡ ticks_at level One upto
  pub unknown : activity.unknown ≡ ticks_at level X upto

-- those of so many nets, by their numbers
pub record AreActivitiesOf (level : ℕ → ℕ → Level) (nets upto : ℕ) (activities : List Activity) : Type 0 where
  pub count : length activities ≡ nets
  pub each : (net : ℕ) (d : Activity) → net < nets → IsActivity (level net) upto (slice_index_or activities net d)

-- those of all nets of a design's run
abbrev pub AreActivities : Design → List Activity → Type 0
AreActivities design = AreActivitiesOf (value design) (nets_of design) design.horizon
