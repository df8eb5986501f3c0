-- The status of the process by what was done.
use Rattle.std.specs.Prelude.{◌≡◌, ℕ, ◌==◌, if◌then◌else◌}
use Rattle.cmb_faults.specs.declared.fault.Fault.{Fault}
use Rattle.cmb_faults.specs.declared.fault.Fault.TheVariants.{Write}
use Rattle.cmb_faults.specs.declared.answer.Done.{Done}
use Rattle.cmb_faults.specs.declared.answer.Done.TheVariants.{Ran, Measured, Compared, Checked}

-- 3 where some row came otherwise than was expected, else 0
abbrev pub done_status : Done → ℕ
done_status (Ran report) = 0
done_status (Measured report) = 0
done_status (Compared told) = if told.differ == 0 then 0 else 3
done_status (Checked counts) = 0

-- the output failed, after some bytes
abbrev pub IsWrite : Fault → Type 0
IsWrite fault = (written : ℕ) × (fault ≡ Write written)
