use Rattle.std.proofs.Common.{◌≡◌, ◌++◌, drop}
use Rattle.cmb_run_text.specs.Inner.ValueChanges.{value_changes_text}
use Rattle.cmb_run_text.proofs.value_changes.push_value_changes.Given as goal

abbrev pub invariant-loop-event : goal.invariant-loop-event
invariant-loop-event l = l.out.items ++ value_changes_text l.last (drop l.event-index l.events) ≡ l.initial.out.items ++ value_changes_text l.first l.events
