use Rattle.std.proofs.Common.{arith}
use Rattle.cmb_design_model.proofs.design.Design.next.Goals as goal

pub next_at-requires-clause-clock : goal.next_at-requires-clause-clock
next_at-requires-clause-clock c = rw c.clock.ensures.value (c.clock.ensures.lawful.clocks c.args.net)

pub next_at-requires-clause-tick : goal.next_at-requires-clause-tick
next_at-requires-clause-tick c = omega (arith, c.clock.ensures.lawful.horizon.1, c.requires.tick)
