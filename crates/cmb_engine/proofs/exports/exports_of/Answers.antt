use Rattle.std.proofs.Common.{ℕ, ◌+◌, List, Bool, false, get_or, take, sym, ap, subst, ◌∙◌, arith, Vec, Global}
use Rattle.std.specs.Prelude.{All}
use Rattle.std.proofs.lemmas.Bool.{eqb-false, eqb-true}
use Rattle.std.proofs.lemmas.List.{nil_from_length, take_all}
use Rattle.std.proofs.lemmas.List.Elements.{All-push}
use Rattle.cmb_engine.specs.Inner.Circuits.{IsGroup}
use Rattle.cmb_engine.specs.Inner.Exports.{slots_of}
use Rattle.cmb_engine.specs.declared.group.Group.{Group}
use Rattle.cmb_engine.proofs.ExportFacts.{AreMarkedOf, marked-group, marked-nowhere}
use Rattle.cmb_engine.proofs.exports.exports_of.Goals as goal
use Rattle.cmb_engine.proofs.exports.exports_of.Goals.{then-not-is_empty+in_ok-push, else-not-is_empty}

pub loop-group-preserved : goal.loop-group-preserved
loop-group-preserved c =
    elim c.if-not-is_empty.branch [
      | then-not-is_empty+in_ok-push w ↦
          let items = ap (λ (exports : Vec Group Global). exports.items) w.exports-is ∙ w.in_ok-push.ensures.items in
          record {
            exact = subst (λ (groups : List Group). AreMarkedOf marked (slots_of (take (k + 1) c.args.flops.now)) (slots_of groups)) (sym items)
                (marked-group marked c.args.flops.now c.loop-group.exports.items k c.group-item.result c.in_ok-marked.marked c.loop-group-test.true here c.loop-group.invariant.exact);
            groups = λ cells are.
                subst (λ (groups : List Group). All (IsGroup cells) groups) (sym items)
                (All-push (IsGroup cells) c.loop-group.exports.items c.in_ok-marked.marked (c.loop-group.invariant.groups cells are)
                (record {
                  some = omega (arith, eqb-false _ _ (sym c.is_empty.ensures ∙ w.if-not-is_empty.true), c.in_ok-marked.marked.flops.ok);
                  each = c.in_ok-marked.ensures.cells cells (subst (IsGroup cells) (sym c.group-item.is) (are k c.group-item.result c.loop-group-test.true));
                }));
          }
      | else-not-is_empty w ↦
          let items = ap (λ (exports : Vec Group Global). exports.items) w.exports-is in
          record {
            exact = subst (λ (groups : List Group). AreMarkedOf marked (slots_of (take (k + 1) c.args.flops.now)) (slots_of groups)) (sym items)
                (marked-nowhere marked c.args.flops.now c.loop-group.exports.items k c.group-item.result c.loop-group-test.true (subst (λ (listed : List ℕ). AreMarkedOf marked (get_or c.args.flops.now k c.group-item.result).flops.items listed)
                (nil_from_length c.in_ok-marked.marked.flops.items (omega (arith, eqb-true _ _ (sym c.is_empty.ensures ∙ w.if-not-is_empty.false), c.in_ok-marked.marked.flops.ok))) here) c.loop-group.invariant.exact);
            groups = λ cells are. subst (λ (groups : List Group). All (IsGroup cells) groups) (sym items) (c.loop-group.invariant.groups cells are);
          }
    ]
  where
    k : ℕ
    k = c.loop-group.group-index

    marked : ℕ → Bool
    marked n = get_or c.args.crossing.now n false

    here : AreMarkedOf marked (get_or c.args.flops.now k c.group-item.result).flops.items c.in_ok-marked.marked.flops.items
    here = subst (λ (group : Group). AreMarkedOf marked group.flops.items c.in_ok-marked.marked.flops.items) c.group-item.is c.in_ok-marked.ensures.exact

pub returns-clause-exact : goal.returns-clause-exact
returns-clause-exact c =
    subst (λ (groups : List Group). AreMarkedOf (λ n. get_or c.args.crossing.now n false) (slots_of groups) (slots_of c.loop-group.exports.items))
    (take_all c.loop-group.group-index c.args.flops.now c.loop-group-test.false) c.loop-group.invariant.exact
