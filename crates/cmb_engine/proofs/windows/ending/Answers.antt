use Rattle.std.proofs.Common.{List, sym, ap, subst, ◌∙◌, Vec, Global}
use Rattle.std.specs.Prelude.{All}
use Rattle.std.proofs.lemmas.List.Elements.{All-push}
use Rattle.cmb_engine.specs.Inner.Ends.{IsPaced}
use Rattle.cmb_engine.specs.declared.windows.Pace.{Pace}
use Rattle.cmb_engine.proofs.windows.ending.Goals as goal
use Rattle.cmb_engine.proofs.windows.ending.Goals.{then-pace-ge-SHORTEST_CYCLE+in_ok-push, else-pace-ge-SHORTEST_CYCLE}

pub loop-pace-preserved : goal.loop-pace-preserved
loop-pace-preserved c =
    elim c.if-pace-ge-SHORTEST_CYCLE.branch [
      | then-pace-ge-SHORTEST_CYCLE+in_ok-push w ↦
          let items = ap (λ (paces : Vec Pace Global). paces.items) w.ending-is ∙ w.in_ok-push.ensures.items in
          subst (λ (paces : List Pace). All IsPaced paces) (sym items)
          (All-push IsPaced c.loop-pace.ending.items w.spaced.result c.loop-pace.invariant w.spaced.ensures)
      | else-pace-ge-SHORTEST_CYCLE w ↦
          subst (λ (paces : List Pace). All IsPaced paces) (sym (ap (λ (paces : Vec Pace Global). paces.items) w.ending-is)) c.loop-pace.invariant
    ]
