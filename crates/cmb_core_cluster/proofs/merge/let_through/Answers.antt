use Rattle.std.proofs.Common.{◌≡◌, ℕ, ◌≤◌, ◌<◌, take, length, arith, sym, ◌∙◌, ap}
use Rattle.std.proofs.lemmas.List.{take_all}
use Rattle.cmb_core_cluster.specs.Inner.Arrivals.{pins_at, levels, least_due}
use Rattle.cmb_core_cluster.proofs.Merging.{same_step, steady_step, rest_step, due_step}
use Rattle.cmb_core_cluster.proofs.merge.let_through.Goals as goal
use Rattle.cmb_core_cluster.proofs.merge.let_through.Goals.{then-arrival-from, else-arrival-from}

pub loop-pin-preserved : goal.loop-pin-preserved
loop-pin-preserved c =
    let within_new : c.loop-pin.pin-index < length c.loop-pin.pins = omega arith in
    let within_old : c.loop-pin.pin-index < length c.args.pins.now = omega arith in
    let bounds : (c.if-arrival-from.next ≤ c.loop-pin.next) × (c.if-arrival-from.next ≤ c.advance-arrival.result) × (c.args.now < c.if-arrival-from.next) =
    elim c.if-arrival-from.branch [
      | then-arrival-from w ↦ (omega arith, omega arith, omega arith)
      | else-arrival-from w ↦ (omega arith, omega arith, omega arith)
    ]
    in
    let step = due_step c.loop-pin.pins c.loop-pin.pin-index c.advance-arrival.new.self c.args.until within_new in
    record {
      same = λ t h. same_step _ _ _ _ _ t within_new within_old c.loop-pin.invariant.rest (c.loop-pin.invariant.same t h) (c.advance-arrival.ensures.same t h);
      steady = λ t h k. steady_step _ _ _ t within_new (c.loop-pin.invariant.steady t h (omega arith)) (c.advance-arrival.ensures.steady t h (omega arith));
      rest = rest_step c.loop-pin.pins c.args.pins.now c.loop-pin.pin-index c.advance-arrival.new.self c.loop-pin.invariant.rest;
      later = bounds.2;
      within = omega arith;
      due = elim c.if-arrival-from.branch [
        | then-arrival-from w ↦ omega (arith, step, c.advance-arrival.ensures.due, c.loop-pin.invariant.due)
        | else-arrival-from w ↦ omega (arith, step, c.advance-arrival.ensures.due, c.loop-pin.invariant.due)
      ];
    }

pub returns : goal.returns
returns c =
    let whole_new : take c.loop-pin.pin-index c.loop-pin.pins ≡ c.loop-pin.pins = take_all _ _ (omega arith) in
    let whole_old : take c.loop-pin.pin-index c.args.pins.now ≡ c.args.pins.now = take_all _ _ (omega arith) in
    let same : (t : ℕ) → c.args.now ≤ t → pins_at c.loop-pin.pins t ≡ pins_at c.args.pins.now t =
    λ t h. ap (λ ps. pins_at ps t) (sym whole_new) ∙ c.loop-pin.invariant.same t h ∙ ap (λ ps. pins_at ps t) whole_old
    in
    let steady : (t : ℕ) → c.args.now ≤ t → t < c.loop-pin.next → pins_at c.loop-pin.pins t ≡ levels c.loop-pin.pins =
    λ t h k. ap (λ ps. pins_at ps t) (sym whole_new) ∙ c.loop-pin.invariant.steady t h k ∙ ap levels whole_new
    in
    record {
      same = same;
      steady = λ t h k. sym (same t h) ∙ steady t h k;
      later = c.loop-pin.invariant.later;
      within = c.loop-pin.invariant.within;
      due = c.loop-pin.invariant.due ∙ ap (λ ps. least_due ps c.args.until) whole_new;
    }
