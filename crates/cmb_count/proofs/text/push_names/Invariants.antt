use Rattle.std.proofs.Common.{◌≡◌, ◌++◌, take}
use Rattle.cmb_count.specs.Texts.{name_rows}
use Rattle.cmb_count.proofs.text.push_names.Given as goal

abbrev pub invariant-loop-net : goal.invariant-loop-net
invariant-loop-net l = l.text.items ≡ l.fn.text.items ++ name_rows l.netlist (take l.net-index l.nets)
