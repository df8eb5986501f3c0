use Rattle.std.proofs.Common.{◌≡◌, drop}
use Rattle.cmb_report.specs.Progress.{advanced}
use Rattle.cmb_report.proofs.text_progress.TextProgress.add.Given as goal

abbrev pub invariant-loop-byte : goal.invariant-loop-byte
invariant-loop-byte l = advanced l.self (drop l.byte-index l.text) ≡ advanced l.fn.self l.text
