use Rattle.cmb_graph.proofs.BeginFacts.{begun}
use Rattle.cmb_graph.proofs.loops.searched.Goals as goal

pub search_all-requires-clause-under : goal.search_all-requires-clause-under
search_all-requires-clause-under c =
    begun c.args.netlist.now c.args.steps c.in_ok-search.search c.len.ensures.sound (rw c.len.ensures.value at c.in_ok-search.ensures)
