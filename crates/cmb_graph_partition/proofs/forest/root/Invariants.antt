use Rattle.cmb_graph_partition.proofs.forest.root.Given as goal

abbrev pub decreases-loop-parent : goal.decreases-loop-parent
decreases-loop-parent l = l.next
