use Rattle.std.proofs.Common.{◌≡◌, ℕ, ◌+◌, ◌<◌, ◌++◌, ◌∷◌, [], List, sym, ap, subst, ◌∙◌, arith, Vec, Global}
use Rattle.std.specs.Prelude.{All, Contains}
use Rattle.std.proofs.lemmas.List.Elements.{All-push, Contains-append_left, Contains-push}
use Rattle.cmb_design_model.specs.Timing.{delay}
use Rattle.cmb_engine.specs.Crossings.{IsCrossing}
use Rattle.cmb_engine.specs.Inner.Ends.{pace_of, IsPaced}
use Rattle.cmb_engine.specs.declared.windows.Pace.{Pace}
use Rattle.cmb_engine.proofs.EndFacts.{ending-more}
use Rattle.cmb_engine.proofs.windows.add_crossing.Goals as goal
use Rattle.cmb_engine.proofs.windows.add_crossing.Goals.{in-Some+else-pace-width+else-len+then-not-is_among+in_ok-push, in-Some+else-pace-width+else-len+else-not-is_among, in_default}

pub loop-net-preserved : goal.loop-net-preserved
loop-net-preserved c =
    elim c.match-crossing_pace.branch [
      | in-Some+else-pace-width+else-len+then-not-is_among+in_ok-push w ↦
          let items = ap (λ (paces : Vec Pace Global). paces.items) w.paces-is ∙ w.in_ok-push.ensures.items in
          let is : w.in-Some.pace ≡ pace_of c.args.design.now c.loop-net.net = w.in-Some.ensures.1 in
          record {
            paced = subst (λ (paces : List Pace). All IsPaced paces) (sym items) (All-push IsPaced c.loop-net.paces.items w.in-Some.pace c.loop-net.invariant.paced w.in-Some.ensures.0);
            ending = subst (λ (paces : List Pace). (net : ℕ) → net < c.loop-net.net + 1 → IsCrossing c.args.design.now c.args.crossing.now net → Contains paces (pace_of c.args.design.now net) × (delay c.args.design.now net 1 < c.args.width)) (sym items)
                (ending-more c.args.design.now c.args.crossing.now c.args.width c.loop-net.net c.loop-net.paces.items (c.loop-net.paces.items ++ w.in-Some.pace ∷ [])
                (λ pace among. Contains-append_left c.loop-net.paces.items (w.in-Some.pace ∷ []) pace among)
                (λ crossing. (subst (λ (pace : Pace). Contains (c.loop-net.paces.items ++ w.in-Some.pace ∷ []) pace) is (Contains-push c.loop-net.paces.items w.in-Some.pace), omega (arith, w.if-pace-width.false, ap (λ (pace : Pace). pace.lead) is)))
                c.loop-net.invariant.ending);
          }
      | in-Some+else-pace-width+else-len+else-not-is_among w ↦
          let items = ap (λ (paces : Vec Pace Global). paces.items) w.paces-is in
          let is : w.in-Some.pace ≡ pace_of c.args.design.now c.loop-net.net = w.in-Some.ensures.1 in
          record {
            paced = subst (λ (paces : List Pace). All IsPaced paces) (sym items) c.loop-net.invariant.paced;
            ending = subst (λ (paces : List Pace). (net : ℕ) → net < c.loop-net.net + 1 → IsCrossing c.args.design.now c.args.crossing.now net → Contains paces (pace_of c.args.design.now net) × (delay c.args.design.now net 1 < c.args.width)) (sym items)
                (ending-more c.args.design.now c.args.crossing.now c.args.width c.loop-net.net c.loop-net.paces.items c.loop-net.paces.items
                (λ pace among. among)
                (λ crossing. (
                  subst (λ (pace : Pace). Contains c.loop-net.paces.items pace) is
                      (subst (λ (paces : List Pace). Contains paces w.in-Some.pace) w.deref.ensures.value (w.is_among.ensures w.if-not-is_among.false)),
                  omega (arith, w.if-pace-width.false, ap (λ (pace : Pace). pace.lead) is),
                ))
                c.loop-net.invariant.ending);
          }
      | in_default w ↦
          let items = ap (λ (paces : Vec Pace Global). paces.items) w.paces-is in
          record {
            paced = subst (λ (paces : List Pace). All IsPaced paces) (sym items) c.loop-net.invariant.paced;
            ending = subst (λ (paces : List Pace). (net : ℕ) → net < c.loop-net.net + 1 → IsCrossing c.args.design.now c.args.crossing.now net → Contains paces (pace_of c.args.design.now net) × (delay c.args.design.now net 1 < c.args.width)) (sym items)
                (ending-more c.args.design.now c.args.crossing.now c.args.width c.loop-net.net c.loop-net.paces.items c.loop-net.paces.items
                (λ pace among. among) (λ crossing. absurd (w.in_default.ensures crossing)) c.loop-net.invariant.ending);
          }
    ]
