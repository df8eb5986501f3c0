use Rattle.std.proofs.Common.{◌≡◌, ℕ, ◌<◌, false}
use Rattle.cmb_count.specs.DriverKinds.{is_silent}
use Rattle.cmb_report.proofs.slips.first_silent.Given as goal

abbrev pub invariant-loop-net : goal.invariant-loop-net
invariant-loop-net l = record { none : (lower : ℕ) → lower < l.net → is_silent l.design lower ≡ false }
