use Rattle.std.proofs.Common.{◌≡◌, ◌++◌, drop}
use Rattle.cmb_run_text.specs.Vcd.{var_lines}
use Rattle.cmb_run_text.proofs.lines.push_vars.Given as goal

abbrev pub invariant-loop-net : goal.invariant-loop-net
invariant-loop-net l = l.out.items ++ var_lines l.net (drop l.net l.netlist.names) ≡ l.initial.out.items ++ var_lines 0 l.netlist.names
