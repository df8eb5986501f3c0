use Rattle.std.proofs.Common.{◌≡◌, ◌++◌, drop}
use Rattle.cmb_run_text.specs.Inner.ValueChanges.{value_changes_in}
use Rattle.cmb_run_text.proofs.value_changes.gather.Given as goal

abbrev pub invariant-loop-part : goal.invariant-loop-part
invariant-loop-part l = l.events.items ++ value_changes_in (drop l.part-index l.parts) ≡ value_changes_in l.parts
