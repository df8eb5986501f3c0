use Rattle.std.proofs.Common.{◌≡◌, ◌++◌, drop, map}
use Rattle.cmb_netlist.specs.Netlist.{name_of}
use Rattle.cmb_run_text.specs.Vcd.{var_lines}
use Rattle.cmb_run_text.proofs.lines.push_chosen_vars.Given as goal

abbrev pub invariant-loop-place : goal.invariant-loop-place
invariant-loop-place l = l.out.items ++ var_lines l.place (drop l.place (map (name_of l.netlist) l.nets)) ≡ l.initial.out.items ++ var_lines 0 (map (name_of l.netlist) l.nets)
