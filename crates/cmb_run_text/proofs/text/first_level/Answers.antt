use Rattle.cmb_run_text.proofs.PartFacts.{first_told}
use Rattle.cmb_run_text.proofs.TraceFacts.{trace_start}
use Rattle.std.proofs.Common.{◌≡◌, ◌∙◌, ap, sym, Some}
use Rattle.std.specs.Prelude.{slice_get}
use Rattle.cmb_wave.specs.Waveform.{IsTrace}
use Rattle.cmb_run_text.proofs.text.first_level.Goals as goal

pub returns-in-Some : goal.returns-in-Some
returns-in-Some c =
    let wave = c.args.wave.now in
    let trace : IsTrace wave.kept 0 wave.changes wave.clock = trace_start _ _ _ _ (rw c.changes.ensures.changes at c.changes.ensures.trace) in
    let first : slice_get wave.changes 0 ≡ Some c.in-Some.change.now = ap (λ cs. slice_get cs 0) (sym c.changes.ensures.changes) ∙ sym c.in-Some.ensures.value in
    first_told wave.kept wave.clock wave.changes c.in-Some.change.now trace first c.if-change-eq0.true
