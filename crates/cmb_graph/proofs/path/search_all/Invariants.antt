use Rattle.std.proofs.Common.{◌≡◌, ◌≢◌, ◌<◌, ℕ, []}
use Rattle.cmb_graph.specs.Inner.Search.{IsUnderWay, seen_of}
use Rattle.cmb_graph.specs.declared.search.Seen.TheVariants.{New}
use Rattle.cmb_graph.proofs.path.search_all.Given as goal

abbrev pub invariant-loop-net : goal.invariant-loop-net
invariant-loop-net l = record {
  under : IsUnderWay l.fn.netlist l.fn.steps l.search [];
  frames : l.search.frames.items ≡ [];
  found : (net : ℕ) → net < l.net → seen_of l.search.seen.items net ≢ New;
}
