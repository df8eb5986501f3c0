use Rattle.std.proofs.Common.{map, take}
use Rattle.cmb_engine.specs.Inner.Lines.{AreFollowers}
use Rattle.cmb_engine.proofs.lines.followers_of.Given as goal

abbrev pub invariant-loop-number : goal.invariant-loop-number
invariant-loop-number l = AreFollowers (take l.number l.lines) l.nets (map (λ list. list.items) l.followers.items)
