use Rattle.cmb_core_cluster.proofs.OpeningFacts.{gate_starts}
use Rattle.cmb_core_cluster.proofs.open.gate_node.Goals as goal

pub returns-clause-starts : goal.returns-clause-starts
returns-clause-starts c =
    rw c.new-2.ensures
    (gate_starts c.args.places.now c.args.kind c.in_ok-operands.operands.items c.new.result.items (rw c.in_ok-operands.ensures.count c.requires.takes) c.in_ok-operands.ensures.places)
