use Rattle.cmb_graph.proofs.PathFacts.{kept}
use Rattle.cmb_graph.proofs.path.leave.Goals as goal

pub returns-else-ends_at-clause-under : goal.returns-else-ends_at-clause-under
returns-else-ends_at-clause-under c =
    kept c.args.netlist.now c.args.steps c.args.search.now c.args.search.now.frames.items c.args.place c.requires (rw c.as_slice.ensures.value at (c.ends_at.ensures.no c.if-ends_at.false))
