use Rattle.std.proofs.Common.{◌≡◌, ◌++◌}
use Rattle.cmb_wave.specs.declared.level.Level.TheVariants as level
use Rattle.cmb_design_model.proofs.LevelFacts.{keep}
use Rattle.cmb_design_model.proofs.row_levels.changes_of_map.Given as goal

abbrev pub invariant-loop-tick : goal.invariant-loop-tick
invariant-loop-tick l = l.list.items ++ keep 4294967296 l.before l.tick-iterator ≡ keep 4294967296 level.X l.rows.entries
