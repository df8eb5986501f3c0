use Rattle.std.proofs.Common.{◌≡◌, ◌+◌, ◌<◌, ◌≤◌, ℕ, List, ap, arith, length, subst, sym, ◌∙◌}
use Rattle.std.specs.Prelude.{All}
use Rattle.cmb_design_model.specs.Design.{Design}
use Rattle.cmb_design_model.specs.Exact.{nets_of}
use Rattle.cmb_design_model.specs.Value.{value}
use Rattle.cmb_words.specs.Changes.{RisesWithin, Tells}
use Rattle.cmb_words.specs.declared.changed.Changed.{Changed}
use Rattle.cmb_expect.specs.Inner.Probes.{AreLater}
use Rattle.cmb_expect.specs.Inner.Traces.{AreTraces}
use Rattle.cmb_expect.specs.declared.probe.Probe.{Probe}
use Rattle.cmb_expect.proofs.TraceFacts.{followed, rises-within, traces-later}
use Rattle.cmb_expect.proofs.observe.find_all.Goals as goal

abbrev none : Probe
none = record { tick = 0; net = 0; place = 0 }

pub loop-done-init : goal.loop-done-init
loop-done-init c = record {
  design = c.requires.design;
  within = omega (arith, c.requires.clock, c.horizon-horizon.ensures.value, c.horizon-horizon.ensures.small);
  traces = subst (λ (k : ℕ). AreTraces (value c.args.design.now) (nets_of c.args.design.now) k k c.args.traces.now) (sym c.requires.clock)
      (traces-later (value c.args.design.now) (nets_of c.args.design.now) 0 1 c.args.traces.now (omega arith) c.requires.traces);
  some = c.find-done.ensures.some;
  later = subst (λ (k : ℕ). AreLater k c.args.probes.now c.find-done.result) (sym c.requires.clock) c.find-done.ensures.later;
  found = c.find-done.ensures.found (value c.args.design.now) 0 (λ i d after below. omega arith)
      (subst (λ (n : ℕ). AreTraces (value c.args.design.now) n 0 1 c.args.traces.now) (sym c.requires.traces.count) c.requires.traces) (λ i p d before below. absurd (omega (arith, before)));
}

pub next_end-upto-requires : goal.next_end-upto-requires
next_end-upto-requires c =
    let it = c.loop-done.invariant in
    omega (arith, it.later c.loop-done.done none (omega arith) c.loop-done-test.true, (c.requires.probes.each c.loop-done.done none c.loop-done-test.true).2, ap (λ (d : Design). d.horizon) it.design)

pub follow-requires : goal.follow-requires
follow-requires c =
    let it = c.loop-done.invariant in
    let Below : List Changed → Type 0 = λ changed. All (λ one. one.net < length c.loop-done.traces) changed in
    let count : nets_of c.loop-done.engine.design ≡ length c.loop-done.traces = ap nets_of it.design ∙ sym it.traces.count in
    subst Below (sym c.deref.ensures.value)
    (rises-within 0 (length c.loop-done.traces) c.advance.new.changed.items (subst (λ (n : ℕ). RisesWithin 0 n c.advance.new.changed.items) count c.in_ok-engine.ensures.window.nets))

pub find-done-requires-in-loop-done-clause-upto : goal.find-done-requires-in-loop-done-clause-upto
find-done-requires-in-loop-done-clause-upto c k d below =
    let it = c.loop-done.invariant in
    let window = c.in_ok-engine.ensures.window in
    let tells : Tells (value c.args.design.now) (nets_of c.args.design.now) c.loop-done.engine.clock c.next_end-upto.result c.advance.new.changed.items =
    subst (λ (k : ℕ). Tells (value c.args.design.now) (nets_of c.args.design.now) c.loop-done.engine.clock k c.advance.new.changed.items) c.in_ok-engine.ensures.clock
    (subst (λ (d : Design). Tells (value d) (nets_of d) c.loop-done.engine.clock c.in_ok-engine.engine.clock c.advance.new.changed.items) it.design c.in_ok-engine.ensures.tells) in
    let now : AreTraces (value c.args.design.now) (nets_of c.args.design.now) c.loop-done.engine.clock c.next_end-upto.result c.follow.new.traces =
    followed (value c.args.design.now) (nets_of c.args.design.now) c.loop-done.engine.clock c.next_end-upto.result c.loop-done.traces c.follow.new.traces c.advance.new.changed.items
    c.deref.result.now it.traces.count c.deref.ensures.value window.late c.next_end-upto.ensures.later (omega (arith, window.short, c.in_ok-engine.ensures.clock)) it.traces tells c.follow.ensures in
    (now.each k d (omega (arith, below, now.count))).within

pub find-done-requires-in-loop-done-clause-late : goal.find-done-requires-in-loop-done-clause-late
find-done-requires-in-loop-done-clause-late c =
    (c.loop-done.engine.clock, omega (arith, c.in_ok-engine.ensures.window.short, c.in_ok-engine.ensures.clock), c.loop-done.invariant.later)

pub loop-done-preserved : goal.loop-done-preserved
loop-done-preserved c =
    let it = c.loop-done.invariant in
    let window = c.in_ok-engine.ensures.window in
    let at : c.in_ok-engine.engine.clock ≡ c.next_end-upto.result = c.in_ok-engine.ensures.clock in
    let tells : Tells (value c.args.design.now) (nets_of c.args.design.now) c.loop-done.engine.clock c.next_end-upto.result c.advance.new.changed.items =
    subst (λ (k : ℕ). Tells (value c.args.design.now) (nets_of c.args.design.now) c.loop-done.engine.clock k c.advance.new.changed.items) at
    (subst (λ (d : Design). Tells (value d) (nets_of d) c.loop-done.engine.clock c.in_ok-engine.engine.clock c.advance.new.changed.items) it.design c.in_ok-engine.ensures.tells) in
    let now : AreTraces (value c.args.design.now) (nets_of c.args.design.now) c.loop-done.engine.clock c.next_end-upto.result c.follow.new.traces =
    followed (value c.args.design.now) (nets_of c.args.design.now) c.loop-done.engine.clock c.next_end-upto.result c.loop-done.traces c.follow.new.traces c.advance.new.changed.items
    c.deref.result.now it.traces.count c.deref.ensures.value window.late c.next_end-upto.ensures.later (omega (arith, window.short, at)) it.traces tells c.follow.ensures in
    record {
      design = c.in_ok-engine.ensures.design ∙ it.design;
      within = omega (arith, at, c.next_end-upto.ensures.within, ap (λ (d : Design). d.horizon) it.design);
      traces = subst (λ (k : ℕ). AreTraces (value c.args.design.now) (nets_of c.args.design.now) k k c.follow.new.traces) (sym at)
          (traces-later (value c.args.design.now) (nets_of c.args.design.now) c.loop-done.engine.clock c.next_end-upto.result c.follow.new.traces (omega (arith, c.next_end-upto.ensures.later)) now);
      some = c.find-done-in-loop-done.ensures.some;
      later = subst (λ (k : ℕ). AreLater k c.args.probes.now c.find-done-in-loop-done.result) (sym at) c.find-done-in-loop-done.ensures.later;
      found = c.find-done-in-loop-done.ensures.found (value c.args.design.now) c.loop-done.engine.clock it.later
          (subst (λ (n : ℕ). AreTraces (value c.args.design.now) n c.loop-done.engine.clock c.next_end-upto.result c.follow.new.traces) (sym now.count) now) it.found;
    }
