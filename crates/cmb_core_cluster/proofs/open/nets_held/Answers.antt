use Rattle.cmb_core_cluster.proofs.OpenedFacts.{held_is}
use Rattle.cmb_core_cluster.proofs.open.nets_held.Goals as goal

pub returns : goal.returns
returns c =
    rw (c.deref.ensures.value, held_is c.args.design.now c.args.clustering.now c.args.cluster c.in_ok-read.read.items c.in_ok-read.ensures.read) at c.nets_marked.ensures
