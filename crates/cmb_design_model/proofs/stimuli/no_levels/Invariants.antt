use Rattle.std.proofs.Common.{◌≡◌, length}
use Rattle.cmb_design_model.specs.Inner.Stimuli.{AllEmpty}
use Rattle.cmb_design_model.proofs.stimuli.no_levels.Given as goal

abbrev pub invariant-loop : goal.invariant-loop
invariant-loop l = (length l.table.items ≡ l.counter) × AllEmpty l.table.items
