-- The numbers of a run's faults.
use Rattle.std.specs.Prelude.{ℕ}
use Rattle.cmb_run_exact.specs.declared.run_fault.RunFault.{RunFault}
use Rattle.cmb_run_exact.specs.declared.run_fault.RunFault.TheVariants.{Incomplete, Write, Memory}

abbrev pub number_of_run_fault : RunFault → ℕ
number_of_run_fault (Incomplete net upto collector) = 53
number_of_run_fault (Write written) = 62
number_of_run_fault Memory = 70
