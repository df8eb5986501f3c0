use Rattle.std.proofs.Common.{◌≡◌, ◌++◌}
use Rattle.cmb_run_text.specs.Vcd.{code}
use Rattle.cmb_run_text.proofs.lines.push_code.Given as goal

abbrev pub invariant-loop-rest : goal.invariant-loop-rest
invariant-loop-rest l = l.out.items ++ code l.rest ≡ l.initial.out.items ++ code l.net

abbrev pub decreases-loop-rest : goal.decreases-loop-rest
decreases-loop-rest l = l.rest
