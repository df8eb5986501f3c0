use Rattle.std.proofs.Common.{refl, ◌∙◌, ap, arith}
use Rattle.cmb_report.specs.Progress.{limited}
use Rattle.cmb_report.proofs.LineFacts.{run_lines}
use Rattle.cmb_report.proofs.laws.progress_goes_by_lines.Goals as goal

pub returns-clause-changes : goal.returns-clause-changes
returns-clause-changes c = λ lines whole. (run_lines 0 0 0 0 0 lines whole refl).0 ∙ ap limited (omega arith)

pub returns-clause-tick : goal.returns-clause-tick
returns-clause-tick c = λ lines whole. (run_lines 0 0 0 0 0 lines whole refl).1
