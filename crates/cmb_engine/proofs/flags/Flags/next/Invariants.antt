use Rattle.std.proofs.Common.{◌*◌}
use Rattle.cmb_engine.specs.Inner.Flags.{NoFlags}
use Rattle.cmb_engine.proofs.flags.Flags.next.Given as goal

abbrev pub invariant-loop-number : goal.invariant-loop-number
invariant-loop-number l = NoFlags l.self l.fn.from (8 * l.number)
