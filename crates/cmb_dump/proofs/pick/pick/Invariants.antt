use Rattle.std.proofs.Common.{◌≡◌, ◌++◌, drop}
use Rattle.cmb_dump.specs.Inner.Picks.{picked_of}
use Rattle.cmb_dump.proofs.pick.pick.Given as goal

abbrev pub invariant-loop-one : goal.invariant-loop-one
invariant-loop-one l = l.picked.items ++ picked_of l.places l.count (drop l.one-index l.changed) ≡ picked_of l.places l.count l.changed
