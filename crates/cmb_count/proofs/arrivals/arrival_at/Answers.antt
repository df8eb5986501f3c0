use Rattle.std.proofs.Common.{◌≡◌, ◌⊎◌, inl, inr, ◌∙◌, ◌+◌, ◌*◌, ℕ, ◌<◌, ◌≤◌, ap, sym, subst, arith, length, get_or, List, below_more}
use Rattle.std.proofs.lemmas.List.{get_or_default}
use Rattle.cmb_netlist.specs.Netlist.{Netlist}
use Rattle.cmb_design_model.specs.Design.{Design}
use Rattle.cmb_design_model.specs.Timing.{delay}
use Rattle.cmb_graph.specs.Loops.{targets}
use Rattle.cmb_graph.specs.declared.steps.Steps.TheVariants as steps
use Rattle.cmb_count.specs.Inner.Arrivals.{Covers, IsReached, IsWithin, later_by, time_of}
use Rattle.cmb_count.specs.Paths.{Arrives, launch, operands}
use Rattle.cmb_count.specs.declared.arrivals.Arrival.{Arrival}
use Rattle.cmb_count.specs.declared.arrivals.Arrival.TheVariants.{Never}
use Rattle.cmb_count.specs.declared.paths.Between.{Between}
use Rattle.cmb_count.proofs.ArrivalFacts.{covers_later, launch_covers, launch_reached, reached_through, within_later, within_more}
use Rattle.cmb_count.proofs.PathFacts.{operand_within}
use Rattle.cmb_count.proofs.arrivals.arrival_at.Goals as goal

reached_of : (design : Design) (between : Between) (net k : ℕ) (old new come before : Arrival) → k < length (operands design.netlist net)
    → come ≡ later_by before (delay design net (k + 1)) → (new ≡ old) ⊎ (new ≡ come)
    → IsReached (Arrives design between net) old → IsReached (Arrives design between (get_or (operands design.netlist net) k 0)) before → IsReached (Arrives design between net) new
reached_of design between net k old new come before within is (inl e) h g = subst (IsReached (Arrives design between net)) (sym e) h
reached_of design between net k old new come before within is (inr e) h g = subst (IsReached (Arrives design between net)) (sym (e ∙ is)) (reached_through design between net k before within g)

small_of : (old new come before : Arrival) (m c d : ℕ) → come ≡ later_by before d → (new ≡ old) ⊎ (new ≡ come)
    → IsWithin ((c + 1) * 1000000) old → IsWithin ((m + 1) * 1000000) before → m < c → d ≤ 1000000 → IsWithin ((c + 1) * 1000000) new
small_of old new come before m c d is (inl e) h g less small = subst (IsWithin ((c + 1) * 1000000)) (sym e) h
small_of old new come before m c d is (inr e) h g less small = subst (IsWithin ((c + 1) * 1000000)) (sym (e ∙ is)) (within_later before m c d g less small)

pub loop-k-init : goal.loop-k-init
loop-k-init c =
    let design = c.args.design.now in
    let is = sym c.launched-arrival.ensures.value in
    record {
      reached = λ h. subst (IsReached (Arrives design c.args.between c.args.net)) is (launch_reached design c.args.between c.args.net c.requires.net);
      launched = λ o. subst (λ (a : Arrival). Covers a (launch design c.args.net)) is (launch_covers design c.args.between c.args.net o);
      relaxed = λ k h. absurd (omega (arith, h));
      small = λ h. within_more c.launched-arrival.result 1000000 ((get_or c.args.components.now.numbers.items c.args.net 0 + 1) * 1000000) (omega arith) c.launched-arrival.ensures.small;
    }

pub loop-k-preserved : goal.loop-k-preserved
loop-k-preserved c =
    let design = c.args.design.now in
    let numbers = c.args.components.now.numbers.items in
    let times = c.args.times.now in
    let net = c.args.net in
    let k = c.loop-k.k in
    let old = c.loop-k.arrival in
    let new = c.latest-arrival.result in
    let ops : c.targets_from-operands.result.now ≡ operands design.netlist net = c.targets_from-operands.ensures ∙ ap (λ (n : Netlist). targets n steps.Gates net) c.netlist.ensures in
    let long = ap length ops in
    let within : k < length (operands design.netlist net) = omega (arith, c.loop-k-test.true, long) in
    let operand : ℕ = get_or (operands design.netlist net) k 0 in
    let low = operand_within design.netlist net k c.requires.sound within in
    let read : get_or c.targets_from-operands.result.now k 0 < length numbers = subst (λ (l : List ℕ). get_or l k 0 < length numbers) (sym ops) (omega (arith, low, c.requires.parts.nets)) in
    let place : c.index.result.now ≡ get_or numbers operand 0
    = c.index.ensures ∙ get_or_default numbers (get_or c.targets_from-operands.result.now k 0) c.index.result.now 0 read ∙ ap (λ (l : List ℕ). get_or numbers (get_or l k 0) 0) ops in
    let come : c.put_off.result ≡ later_by (time_of numbers times operand) (delay design net (k + 1))
    = c.put_off.ensures ∙ ap (λ (p : ℕ). later_by (get_or times p Never) c.delay.result) place ∙ ap (later_by (time_of numbers times operand)) c.delay.ensures.value in
    record {
      reached = λ h. reached_of design c.args.between net k old new c.put_off.result (time_of numbers times operand) within come c.latest-arrival.ensures.either
          (c.loop-k.invariant.reached h) (h operand low);
      launched = λ o. c.latest-arrival.ensures.one (launch design net) (c.loop-k.invariant.launched o);
      relaxed = below_more _ _ (λ j less t h. c.latest-arrival.ensures.one (t + delay design net (j + 1)) (c.loop-k.invariant.relaxed j less t h))
          (λ t h. c.latest-arrival.ensures.other (t + delay design net (k + 1)) (subst (λ (a : Arrival). Covers a (t + delay design net (k + 1))) (sym come) (covers_later (time_of numbers times operand) t (delay design net (k + 1)) h)));
      small = λ h. small_of old new c.put_off.result (time_of numbers times operand) (get_or numbers operand 0) (get_or numbers net 0) (delay design net (k + 1)) come c.latest-arrival.ensures.either
          (c.loop-k.invariant.small h) (c.requires.small (get_or numbers operand 0)) (h k within) (let s = c.delay.ensures.small.1 in omega (arith, s, c.delay.ensures.value));
    }
