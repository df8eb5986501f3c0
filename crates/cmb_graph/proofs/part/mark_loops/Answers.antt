use Rattle.std.proofs.Common.{inl, refl, sym, ◌∙◌}
use Rattle.std.proofs.lemmas.Bool.{false≢true}
use Rattle.cmb_graph.specs.Loops.{targets}
use Rattle.cmb_graph.proofs.SetFacts.{looped_set}
use Rattle.cmb_graph.proofs.part.mark_loops.Goals as goal

pub returns-then-has_edge : goal.returns-then-has_edge
returns-then-has_edge c =
    looped_set (targets c.args.netlist.now c.args.steps) c.args.marks.now c.args.part.now c.set_all.new.values (c.has_edge.ensures.yes c.if-has_edge.true) c.set_all.ensures

pub returns-else-has_edge : goal.returns-else-has_edge
returns-else-has_edge c = record {
  long = refl;
  kept = λ net marked. marked;
  all = λ edge. absurd (false≢true (sym c.if-has_edge.false ∙ c.has_edge.ensures.no edge));
  only = λ net marked. inl marked;
}
