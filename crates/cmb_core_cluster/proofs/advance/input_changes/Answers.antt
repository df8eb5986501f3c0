use Rattle.std.proofs.Common.{◌≡◌, ◌-◌, ℕ}
use Rattle.cmb_wave.specs.declared.level.Level.{Level}
use Rattle.cmb_wave.specs.Waveform.{level_at}
use Rattle.cmb_wave.specs.declared.level.Level.TheVariants.{X}
use Rattle.cmb_core_cluster.specs.declared.merge.Lag.TheVariants.{Delay}
use Rattle.cmb_core_cluster.specs.Inner.Spans.{changes_from}
use Rattle.cmb_core_cluster.specs.Inner.Arrivals.{arrived}
use Rattle.cmb_core_cluster.proofs.Changes.{changes_from_same}
use Rattle.cmb_core_cluster.proofs.Skips.{stimulus_rest}
use Rattle.cmb_core_cluster.proofs.advance.input_changes.Goals as goal

pub returns : goal.returns
returns c =
    let span = c.args.span in
    let left = c.left_from-level.result in
    let shown : ℕ → Level = arrived (Delay 0) left.level left.changes.now in
    let same : changes_from shown span.before span.from (span.until - span.from) ≡ changes_from (level_at X c.args.stimulus.now) span.before span.from (span.until - span.from) =
    changes_from_same _ _ span.before span.from (span.until - span.from) (λ t low high. rw (c.left_from-level.ensures.level, c.left_from-level.ensures.changes) (stimulus_rest c.args.stimulus.now span.from t low))
    in
    rw same at c.follow.ensures
