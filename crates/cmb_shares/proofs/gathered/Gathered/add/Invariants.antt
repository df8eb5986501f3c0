use Rattle.std.proofs.Common.{take}
use Rattle.cmb_shares.specs.Inner.Gatherings.{Adds}
use Rattle.cmb_shares.proofs.gathered.Gathered.add.Given as goal

abbrev pub invariant-loop-one : goal.invariant-loop-one
invariant-loop-one l = Adds (take l.one-index l.changes) l.fn.self l.self
