use Rattle.std.proofs.Common.{◌≡◌, take}
use Rattle.cmb_design_model.specs.Settings.{named_nets}
use Rattle.cmb_design_model.proofs.settings.nets_named.Given as goal

abbrev pub invariant-loop-row : goal.invariant-loop-row
invariant-loop-row l = l.table.items ≡ named_nets l.netlist (take l.row-index l.rows)
