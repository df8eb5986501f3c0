use Rattle.std.proofs.Common.{◌≡◌, ◌+◌, ◌<◌, ℕ, [], true, false, cond, take, get_or, length, ◌++◌, ◌∷◌, arith, sym, ◌∙◌, ap}
use Rattle.std.proofs.lemmas.List.{take_all, take_more, length-take-le, get_or_read, append-nil}
use Rattle.cmb_core_cluster.specs.declared.process.ProcessRule.TheVariants.{Given}
use Rattle.cmb_core_cluster.specs.Rows.{Process, is_given}
use Rattle.cmb_core_cluster.specs.Directory.{driven_among, given_among}
use Rattle.cmb_core_cluster.proofs.OpeningFacts.{driven_more, given_more}
use Rattle.cmb_core_cluster.proofs.open.sides_of.Goals as goal
use Rattle.cmb_core_cluster.proofs.open.sides_of.Goals.{then-is_given+in_ok-push, else-is_given+in_ok-push-2}

pub bounds-nodes-i : goal.bounds-nodes-i
bounds-nodes-i c = omega (arith, c.requires, c.loop-i-test.true)

pub loop-i-preserved : goal.loop-i-preserved
loop-i-preserved c =
    let none : Process = record { rule = Given; operands = []; stimulus = [] } in
    let i : ℕ = c.loop-i.i in
    let here : i < length c.args.nodes.now = omega arith in
    let nets : take (i + 1) c.args.nets.now ≡ take i c.args.nets.now ++ get_or c.args.nets.now i 0 ∷ [] = take_more c.args.nets.now i 0 (omega arith) in
    let nodes : take (i + 1) c.args.nodes.now ≡ take i c.args.nodes.now ++ get_or c.args.nodes.now i none ∷ [] = take_more c.args.nodes.now i none here in
    let even : length (take i c.args.nodes.now) ≡ length (take i c.args.nets.now) = omega (arith, length-take-le i c.args.nodes.now (omega arith), length-take-le i c.args.nets.now (omega arith)) in
    let read : c.index-nodes-i.result ≡ get_or c.args.nodes.now i none = get_or_read _ _ _ here c.index-nodes-i.is none in
    let driven = driven_more (get_or c.args.nodes.now i none) (get_or c.args.nets.now i 0) (take i c.args.nodes.now) (take i c.args.nets.now) even in
    let given = given_more (get_or c.args.nodes.now i none) (get_or c.args.nets.now i 0) (take i c.args.nodes.now) (take i c.args.nets.now) even in
    rw (nets, nodes) (elim c.if-is_given.branch [
      | then-is_given+in_ok-push w ↦
          let test : is_given (get_or c.args.nodes.now i none).rule ≡ true = sym (ap (λ p. is_given p.rule) read) ∙ sym c.is_given.ensures ∙ w.if-is_given.true in
          record {
            driven = ap (λ v. v.items) w.driven-is ∙ c.loop-i.invariant.driven ∙ sym (driven ∙ ap (λ b. driven_among (take i c.args.nodes.now) (take i c.args.nets.now) ++ cond b [] (get_or c.args.nets.now i 0 ∷ [])) test ∙ append-nil _);
            given = ap (λ v. v.items) w.given-is ∙ w.in_ok-push.ensures.items ∙ ap (λ xs. xs ++ get_or c.args.nets.now i 0 ∷ []) c.loop-i.invariant.given ∙ sym (given ∙ ap (λ b. given_among (take i c.args.nodes.now) (take i c.args.nets.now) ++ cond b (get_or c.args.nets.now i 0 ∷ []) []) test);
          }
      | else-is_given+in_ok-push-2 w ↦
          let test : is_given (get_or c.args.nodes.now i none).rule ≡ false = sym (ap (λ p. is_given p.rule) read) ∙ sym c.is_given.ensures ∙ w.if-is_given.false in
          record {
            driven = ap (λ v. v.items) w.driven-is ∙ w.in_ok-push-2.ensures.items ∙ ap (λ xs. xs ++ get_or c.args.nets.now i 0 ∷ []) c.loop-i.invariant.driven ∙ sym (driven ∙ ap (λ b. driven_among (take i c.args.nodes.now) (take i c.args.nets.now) ++ cond b [] (get_or c.args.nets.now i 0 ∷ [])) test);
            given = ap (λ v. v.items) w.given-is ∙ c.loop-i.invariant.given ∙ sym (given ∙ ap (λ b. given_among (take i c.args.nodes.now) (take i c.args.nets.now) ++ cond b (get_or c.args.nets.now i 0 ∷ []) []) test ∙ append-nil _);
          }
    ])

pub returns : goal.returns
returns c =
    let nodes = take_all c.loop-i.i c.args.nodes.now (omega (arith, c.requires, c.loop-i-test.false)) in
    let nets = take_all c.loop-i.i c.args.nets.now c.loop-i-test.false in
    (rw (nodes, nets) at c.loop-i.invariant.driven, rw (nodes, nets) at c.loop-i.invariant.given)
