use Rattle.std.proofs.Common.{◌≡◌}
use Rattle.cmb_design_model.specs.Settings.{any_below, is_unclocked}
use Rattle.cmb_design_model.proofs.settings.some_unclocked.Given as goal

abbrev pub invariant-loop-net : goal.invariant-loop-net
invariant-loop-net l = l.lacking ≡ any_below (is_unclocked l.netlist l.rows) l.net
