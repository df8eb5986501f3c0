use Rattle.std.proofs.Common.{◌≤◌, ◌*◌, arith}
use Rattle.std.proofs.Math.Nat.{mul-le-mul_left}
use Rattle.cmb_design_model.specs.Exact.{nets_of}
use Rattle.cmb_design_model.proofs.PlainFacts.{holds_ticks}
use Rattle.cmb_design_model.proofs.plain.filled_table.Goals as goal

pub returns : goal.returns
returns c =
    let all : c.args.design.now.horizon ≤ c.loop-tick.tick = omega (arith, c.horizon-horizon.ensures.value) in
    holds_ticks c.args.design.now c.loop-tick.table (c.loop-tick.tick * nets_of c.args.design.now) c.args.design.now.horizon c.loop-tick.invariant
    (omega (arith, mul-le-mul_left (nets_of c.args.design.now) all))
