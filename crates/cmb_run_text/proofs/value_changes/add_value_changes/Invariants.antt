use Rattle.std.proofs.Common.{◌≡◌, ◌++◌, drop}
use Rattle.cmb_run_text.specs.Inner.ValueChanges.{value_changes_of}
use Rattle.cmb_run_text.proofs.value_changes.add_value_changes.Given as goal

abbrev pub invariant-loop-change : goal.invariant-loop-change
invariant-loop-change l = l.events.items ++ value_changes_of l.fn.part.net (drop l.change-index l.change-items) ≡ l.initial.events.items ++ value_changes_of l.fn.part.net l.change-items
