use Rattle.std.proofs.Common.{◌≡◌, ◌++◌, ◌∷◌, []}
use Rattle.cmb_graph.specs.Inner.Search.{IsUnderWay}
use Rattle.cmb_graph.proofs.path.scan.Given as goal

abbrev pub invariant-loop-next : goal.invariant-loop-next
invariant-loop-next l = record {
  under : IsUnderWay l.fn.netlist l.fn.steps l.search (l.initial.search.frames.items ++ record { place = l.fn.frame.place; next = l.next } ∷ []);
  seen : l.search.seen.items ≡ l.initial.search.seen.items;
  path : l.search.path.items ≡ l.initial.search.path.items;
  frames : l.search.frames.items ≡ l.initial.search.frames.items;
}
