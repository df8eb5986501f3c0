use Rattle.std.proofs.Common.{◌≡◌, take}
use Rattle.cmb_design_model.specs.Value.{pin_levels, value}
use Rattle.cmb_design_model.proofs.plain_cells.collect_levels.Given as goal

abbrev pub invariant-loop-i : goal.invariant-loop-i
invariant-loop-i l = l.levels.items ≡ pin_levels l.design (value l.design) l.net l.tick 1 (take l.i l.operands)
