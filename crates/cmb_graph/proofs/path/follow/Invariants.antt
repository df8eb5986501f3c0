use Rattle.std.proofs.Common.{◌+◌, ◌*◌, length}
use Rattle.std.specs.Prelude.{count_by}
use Rattle.cmb_graph.specs.Inner.Search.{IsStill, IsUnderWay, is_new}
use Rattle.cmb_graph.proofs.path.follow.Given as goal

abbrev pub invariant-loop-frame : goal.invariant-loop-frame
invariant-loop-frame l = record {
  under : IsUnderWay l.fn.netlist l.fn.steps l.search l.search.frames.items;
  still : IsStill l.initial.search.seen.items l.search.seen.items;
}

abbrev pub decreases-loop-frame : goal.decreases-loop-frame
decreases-loop-frame l = 2 * count_by is_new l.search.seen.items + length l.search.frames.items
