use Rattle.std.proofs.Common.{rules}
use Rattle.cmb_run_exact.proofs.RunClocks.{least_clock-whole}
use Rattle.cmb_run_free.proofs.run.least_behind.Goals as goal

pub returns-clause-none : goal.returns-clause-none
returns-clause-none c = least_clock-whole _ _ (λ net below. c.loop-wave.invariant net (search rules))
