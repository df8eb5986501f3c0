use Rattle.std.proofs.Common.{◌<◌, ℕ, false, length, get_or, refl, sym, ◌∙◌, arith, rules}
use Rattle.std.proofs.lemmas.List.{get_or_default}
use Rattle.cmb_cone.proofs.FoundFacts.{IsAdded, added_new, added_there, gains_more, unmarked_at}
use Rattle.cmb_cone.proofs.closed.Found.add_all.Goals as goal
use Rattle.cmb_cone.proofs.closed.Found.add_all.Goals.{then-not-index+in_ok-push, else-not-index}

pub index-requires : goal.index-requires
index-requires c =
    let there = c.requires.nets c.loop-net.net-index 0 c.loop-net-test.true in
    let long = c.loop-net.self.marks.ok.0 in
    omega (arith, there, long, c.loop-net.invariant.marks)

pub loop-net-preserved : goal.loop-net-preserved
loop-net-preserved c =
    let net : ℕ = get_or c.args.nets.now c.loop-net.net-index 0 in
    let within : net < length c.loop-net.self.marks.items = omega (arith, c.requires.nets c.loop-net.net-index 0 c.loop-net-test.true, c.loop-net.invariant.marks) in
    let added : IsAdded c.loop-net.self c.if-not-index.self net =
    elim c.if-not-index.branch [
      | then-not-index+in_ok-push w ↦
          rw w.self-is
          (added_new c.loop-net.self _ net c.loop-net.invariant.found within
          (unmarked_at c.loop-net.self.marks.items net c.index.result.now within c.index.ensures w.if-not-index.true) (search rules) w.in_ok-push.ensures.items)
      | else-not-index w ↦
          rw w.self-is
          (added_there c.loop-net.self net c.loop-net.invariant.found
          (get_or_default c.loop-net.self.marks.items net false c.index.result.now within ∙ sym c.index.ensures ∙ w.if-not-index.false))
    ] in
    record {
      found = added.found;
      marks = added.marks ∙ c.loop-net.invariant.marks;
      gains = gains_more _ _ _ c.args.nets.now c.loop-net.net-index _ c.loop-net-test.true refl c.loop-net.invariant.gains added.gains;
    }
