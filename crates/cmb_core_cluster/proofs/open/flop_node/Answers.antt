use Rattle.std.proofs.Common.{arith, ap}
use Rattle.cmb_design_model.proofs.AskFacts.{clock_of-positive}
use Rattle.cmb_core_cluster.proofs.OpeningFacts.{flop_starts}
use Rattle.cmb_core_cluster.proofs.open.flop_node.Goals as goal

pub returns-clause-starts : goal.returns-clause-starts
returns-clause-starts c =
    rw c.new-2.ensures
    (flop_starts c.args.places.now c.clock-clock.result.first c.clock-clock.result.period c.init.result c.in_ok-operands.operands.items _
    (omega (arith, clock_of-positive c.args.design.now c.args.net, ap (λ k. k.period) c.clock-clock.ensures.value)) c.in_ok-operands.ensures.count c.in_ok-operands.ensures.places)
