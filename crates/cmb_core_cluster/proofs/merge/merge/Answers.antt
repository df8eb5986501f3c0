use Rattle.std.proofs.Common.{◌≡◌, ℕ, ◌≤◌, ◌<◌, ◌-◌, ◌++◌, ◌∷◌, [], true, false, length, arith, sym, ◌∙◌, ap, refl, append_assoc}
use Rattle.cmb_wave.specs.Waveform.{same_level}
use Rattle.cmb_core_cluster.specs.Inner.Spans.{changes_from}
use Rattle.cmb_core_cluster.specs.Inner.Arrivals.{gate_at, levels}
use Rattle.cmb_design_model.specs.Gate.{gate}
use Rattle.cmb_core_cluster.proofs.Changes.{push_turn, skip_turn, left_push}
use Rattle.cmb_core_cluster.proofs.Merging.{length_levels, length_pins_at}
use Rattle.cmb_core_cluster.proofs.merge.merge.Goals as goal

pub gate-level-requires : goal.gate-level-requires
gate-level-requires c =
    let seen : c.deref.result.now ≡ levels c.let_through-next.new.pins = c.deref.ensures.value ∙ c.in_ok-read_levels.ensures in
    let count : length c.let_through-next.new.pins ≡ length c.loop-now.pins = length_pins_at _ _ c.loop-now.now (c.let_through-next.ensures.same c.loop-now.now (omega arith)) in
    rw (seen, length_levels c.let_through-next.new.pins, count) c.loop-now.invariant.takes

pub loop-now-preserved-in_ok-push : goal.loop-now-preserved-in_ok-push
loop-now-preserved-in_ok-push c =
    let unlike : same_level c.gate-level.result c.loop-now.last ≡ false = grind arith in
    let seen : c.deref.result.now ≡ levels c.let_through-next.new.pins = c.deref.ensures.value ∙ c.in_ok-read_levels.ensures in
    let steady : (t : ℕ) → c.loop-now.now ≤ t → t < c.let_through-next.result → gate_at c.args.kind c.args.pins.now t ≡ c.gate-level.result =
    λ t h k. ap (gate c.args.kind) (sym (c.loop-now.invariant.same t h) ∙ c.let_through-next.ensures.steady t h k ∙ sym seen) ∙ sym c.gate-level.ensures
    in
    let more : changes_from (gate_at c.args.kind c.args.pins.now) c.args.span.before c.args.span.from (c.let_through-next.result - c.args.span.from)
    ≡ changes_from (gate_at c.args.kind c.args.pins.now) c.args.span.before c.args.span.from (c.loop-now.now - c.args.span.from)
    ++ record { tick = c.loop-now.now; level = c.gate-level.result } ∷ [] =
    push_turn _ _ _ _ _ _ _ c.loop-now.invariant.begun c.let_through-next.ensures.later c.loop-now.invariant.left steady unlike
    in
    let count : length c.let_through-next.new.pins ≡ length c.loop-now.pins = length_pins_at _ _ c.loop-now.now (c.let_through-next.ensures.same c.loop-now.now (omega arith)) in
    record {
      same = λ t h. c.let_through-next.ensures.same t (omega (arith, h, c.let_through-next.ensures.later)) ∙ c.loop-now.invariant.same t (omega (arith, h, c.let_through-next.ensures.later));
      made = rw (c.in_ok-push.ensures.items, c.loop-now.invariant.made, more, append_assoc) refl;
      left = left_push c.args.span.before _ _ _ more;
      takes = rw count c.loop-now.invariant.takes;
      begun = omega (arith, c.loop-now.invariant.begun, c.let_through-next.ensures.later);
      within = c.let_through-next.ensures.within;
    }

pub loop-now-preserved : goal.loop-now-preserved
loop-now-preserved c =
    let alike : same_level c.gate-level.result c.loop-now.last ≡ true = grind arith in
    let seen : c.deref.result.now ≡ levels c.let_through-next.new.pins = c.deref.ensures.value ∙ c.in_ok-read_levels.ensures in
    let steady : (t : ℕ) → c.loop-now.now ≤ t → t < c.let_through-next.result → gate_at c.args.kind c.args.pins.now t ≡ c.gate-level.result =
    λ t h k. ap (gate c.args.kind) (sym (c.loop-now.invariant.same t h) ∙ c.let_through-next.ensures.steady t h k ∙ sym seen) ∙ sym c.gate-level.ensures
    in
    let more : changes_from (gate_at c.args.kind c.args.pins.now) c.args.span.before c.args.span.from (c.let_through-next.result - c.args.span.from)
    ≡ changes_from (gate_at c.args.kind c.args.pins.now) c.args.span.before c.args.span.from (c.loop-now.now - c.args.span.from) =
    skip_turn _ _ _ _ _ _ _ c.loop-now.invariant.begun c.let_through-next.ensures.later c.loop-now.invariant.left steady alike
    in
    let count : length c.let_through-next.new.pins ≡ length c.loop-now.pins = length_pins_at _ _ c.loop-now.now (c.let_through-next.ensures.same c.loop-now.now (omega arith)) in
    record {
      same = λ t h. c.let_through-next.ensures.same t (omega (arith, h, c.let_through-next.ensures.later)) ∙ c.loop-now.invariant.same t (omega (arith, h, c.let_through-next.ensures.later));
      made = rw more c.loop-now.invariant.made;
      left = rw more c.loop-now.invariant.left;
      takes = rw count c.loop-now.invariant.takes;
      begun = omega (arith, c.loop-now.invariant.begun, c.let_through-next.ensures.later);
      within = c.let_through-next.ensures.within;
    }
