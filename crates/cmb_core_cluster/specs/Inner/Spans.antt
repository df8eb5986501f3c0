-- The changes of a function of the tick, where the level before the first tick is given, and those that the process in a place makes next.
use Rattle.std.specs.Prelude.{ℕ, zero, suc, ◌-◌, List, [], ◌∷◌, if◌then◌else◌, ◌≡◌, ◌<◌, nat_le, slice_set, Option, Some, None}
use Rattle.cmb_wave.specs.declared.level.Level.{Level}
use Rattle.cmb_wave.specs.declared.level.Change.{Change}
use Rattle.cmb_wave.specs.Waveform.{same_level, last_level, level_at, level_before}
use Rattle.cmb_core_cluster.specs.declared.span.Span.{Span}
use Rattle.cmb_wave.specs.Wave.{Wave, Piece, grown}
use Rattle.cmb_core_cluster.specs.Inner.Processes.{process_level, process_reach}
use Rattle.cmb_core_cluster.specs.Clusters.{Cluster, process_at, slot_wave}

-- the changes at `ticks` ticks from `first` on, where the level was `before`
abbrev pub changes_from : (ℕ → Level) → Level → ℕ → ℕ → List Change
changes_from level before first zero = []
changes_from level before first (suc ticks) =
    if same_level (level first) before
    then changes_from level before (suc first) ticks
    else record { tick = first; level = level first } ∷ changes_from level (level first) (suc first) ticks

-- the changes in a span
abbrev pub changes_over : (ℕ → Level) → Span → List Change
changes_over level span = changes_from level span.before span.from (span.until - span.from)

-- the level that the process of a wave has at a tick
abbrev pub row_at : Cluster → ℕ → ℕ → Level
row_at s i t = process_level s.waves (process_at s i).rule (process_at s i).operands (process_at s i).stimulus t

-- up to here the process of a wave can go on, and the changes that it makes up to there
abbrev pub reach_at : Cluster → ℕ → ℕ
reach_at s i = process_reach s.horizon s.waves (process_at s i).rule (process_at s i).operands

abbrev pub changes_at : Cluster → ℕ → List Change
changes_at s i =
    changes_from (row_at s i) (last_level (slot_wave s i).kept (slot_wave s i).changes)
    (slot_wave s i).clock (reach_at s i - (slot_wave s i).clock)

-- the span of a wave's new ticks, and the level before it
pub record IsNextSpan (s : Cluster) (i : ℕ) (span : Span) : Type 0 where
  pub from : span.from ≡ (slot_wave s i).clock
  pub until : span.until ≡ reach_at s i
  pub before : span.before ≡ last_level (slot_wave s i).kept (slot_wave s i).changes
  pub told : span.before ≡ level_before (level_at (slot_wave s i).kept (slot_wave s i).changes) (slot_wave s i).clock
  pub later : span.from < span.until

-- the new part of a wave, and the waves with it
abbrev pub new_part : Cluster → ℕ → Option Piece
new_part s i =
    if nat_le (reach_at s i) (slot_wave s i).clock then None
    else Some (record { net = (slot_wave s i).net; from = (slot_wave s i).clock; to = reach_at s i; changes = changes_at s i })

abbrev pub new_waves_at : Cluster → ℕ → List Wave
new_waves_at s i =
    if nat_le (reach_at s i) (slot_wave s i).clock then s.waves
    else slice_set s.waves i (grown (slot_wave s i) (reach_at s i) (changes_at s i))
