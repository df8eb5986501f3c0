use Rattle.std.proofs.Common.{ℕ, ◌+◌, ◌<◌, ◌∷◌, [], ◌++◌, List, Bool, false, length, get_or, take, sym, ap, subst, ◌∙◌, arith}
use Rattle.std.proofs.lemmas.List.{take_all}
use Rattle.std.proofs.lemmas.List.Elements.{AllZip-push}
use Rattle.cmb_engine.specs.Inner.Circuits.{IsFlopAt}
use Rattle.cmb_engine.proofs.ExportFacts.{AreMarkedOf, marked-more, marked-passed}
use Rattle.cmb_engine.proofs.GroupFacts.{group-read}
use Rattle.cmb_engine.proofs.exports.marked_of.Goals as goal
use Rattle.cmb_engine.proofs.exports.marked_of.Goals.{then-is_marked+in_ok-push, else-is_marked}

pub loop-k-preserved : goal.loop-k-preserved
loop-k-preserved c =
    elim c.if-is_marked.branch [
      | then-is_marked+in_ok-push w ↦
          rw w.marked-is
          (record {
            clock = w.push.ensures.clock ∙ c.loop-k.invariant.clock;
            delay = w.push.ensures.delay ∙ c.loop-k.invariant.delay;
            exact = subst (AreMarkedOf marked (take (c.loop-k.k + 1) slots)) (sym (w.in_ok-push.ensures.flops ∙ ap (λ (n : ℕ). c.loop-k.marked.flops.items ++ n ∷ []) c.index-slot.ensures))
                (marked-more marked slots c.loop-k.k c.index-slot.result.now inside c.loop-k.marked.flops.items c.loop-k.invariant.exact
                (sym (c.is_marked.ensures ∙ ap marked c.index-slot.ensures) ∙ w.if-is_marked.true));
            cells = λ cells is.
                rw (w.in_ok-push.ensures.flops, w.in_ok-push.ensures.sources)
                (AllZip-push (IsFlopAt cells c.args.group.now.clock c.args.group.now.delay) c.loop-k.marked.flops.items c.loop-k.marked.sources.items c.index-slot.result.now w.index.result.now
                (c.loop-k.invariant.cells cells is)
                (group-read cells c.args.group.now is c.loop-k.k c.index-slot.result.now w.index.result.now inside c.index-slot.ensures w.index.ensures));
          })
      | else-is_marked w ↦
          rw w.marked-is
          (record {
            clock = c.loop-k.invariant.clock;
            delay = c.loop-k.invariant.delay;
            exact = marked-passed marked slots c.loop-k.k c.index-slot.result.now inside c.loop-k.marked.flops.items c.loop-k.invariant.exact
                (sym (c.is_marked.ensures ∙ ap marked c.index-slot.ensures) ∙ w.if-is_marked.false);
            cells = c.loop-k.invariant.cells;
          })
    ]
  where
    inside : c.loop-k.k < length c.args.group.now.flops.items
    inside = omega (arith, c.len-k-end.ensures, c.loop-k-test.true)

    slots : List ℕ
    slots = c.args.group.now.flops.items

    marked : ℕ → Bool
    marked n = get_or c.args.marks.now n false

pub returns-clause-exact : goal.returns-clause-exact
returns-clause-exact c =
    subst (λ (slots : List ℕ). AreMarkedOf (λ n. get_or c.args.marks.now n false) slots c.loop-k.marked.flops.items)
    (take_all c.loop-k.k c.args.group.now.flops.items (omega (arith, c.len-k-end.ensures, c.loop-k-test.false))) c.loop-k.invariant.exact
