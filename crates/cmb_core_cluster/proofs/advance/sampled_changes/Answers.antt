use Rattle.std.proofs.Common.{◌≡◌, ◌-◌, ◌+◌, ◌≤◌, ℕ, ◌∙◌}
use Rattle.cmb_wave.specs.declared.level.Level.{Level}
use Rattle.cmb_wave.specs.Waveform.{level_at}
use Rattle.cmb_core_cluster.specs.declared.merge.Lag.TheVariants.{Sampled}
use Rattle.cmb_core_cluster.specs.Inner.Spans.{changes_from}
use Rattle.cmb_core_cluster.specs.Inner.Arrivals.{arrived}
use Rattle.cmb_design_model.specs.Timing.{sample_upto}
use Rattle.cmb_core_cluster.specs.Inner.Processes.{sampled_wave}
use Rattle.cmb_core_cluster.specs.Step.{wave_at}
use Rattle.cmb_core_cluster.proofs.AdvanceLemmas.{sampled_span}
use Rattle.cmb_core_cluster.proofs.Skips.{arrived_sampled}
use Rattle.cmb_core_cluster.proofs.advance.sampled_changes.Goals as goal

pub returns : goal.returns
returns c = λ init begun.
    let span = c.args.span in
    let delay = c.args.operand.delay in
    let left = c.operand_left-level.result in
    let shown : ℕ → Level = arrived (Sampled c.args.first c.args.period delay) left.level left.changes.now in
    let levels : (t : ℕ) → span.from ≤ t → c.args.first + delay ≤ t → shown t ≡ level_at (wave_at c.args.waves.now c.args.operand.net).kept (wave_at c.args.waves.now c.args.operand.net).changes (sample_upto c.args.first c.args.period (t - delay)) =
    λ t h k. arrived_sampled c.args.first c.args.period delay left.level left.changes.now t c.requires.positive k ∙ c.operand_left-level.ensures _ (c.seen_upto-seen.ensures t h k)
    in
    let same : changes_from shown span.before span.from (span.until - span.from)
    ≡ changes_from (sampled_wave (wave_at c.args.waves.now c.args.operand.net) c.args.first c.args.period init delay) span.before span.from (span.until - span.from) =
    sampled_span (wave_at c.args.waves.now c.args.operand.net) c.args.first c.args.period delay init span.before shown span.from span.until levels span.ordered begun
    in
    rw same at c.follow.ensures
