use Rattle.std.proofs.Common.{◌≡◌, ℕ, ◌≤◌, ltb, Option, Some, None, MatchOption, arith, sym, ◌∙◌, ap}
use Rattle.std.specs.Prelude.{is_some}
use Rattle.std.proofs.lemmas.Bool.{lt-ltb, le-ltb}
use Rattle.cmb_design_model.specs.Design.{Design}
use Rattle.cmb_core_cluster.specs.declared.span.Span.{Span}
use Rattle.cmb_core_cluster.specs.Clusters.{Cluster, output_slot, slot_wave}
use Rattle.cmb_core_cluster.specs.Inner.Spans.{IsNextSpan, reach_at}
use Rattle.cmb_core_cluster.specs.Step.{wave_at, step_reach}
use Rattle.cmb_core_cluster.proofs.Driven.{Drives, wave_here, net_here, reach_is}
use Rattle.cmb_core_cluster.proofs.Inputs.{output_slot_is}
use Rattle.cmb_core_cluster.proofs.OwnFacts.{drives_own}
use Rattle.cmb_core_cluster.proofs.cluster.Cluster.goes_on.Goals as goal

-- a span to go on by is there just where the reach is above the clock
span_there : (design : Design) (s : Cluster) (net slot : ℕ) (d : Drives design s net slot) (r : Option Span) → MatchOption r (reach_at s slot ≤ (slot_wave s slot).clock) (IsNextSpan s slot)
    → is_some r ≡ ltb (wave_at s.waves net).clock (step_reach design s.waves net)
span_there design s net slot d None h =
    let reach = reach_is design s net slot d (λ more. absurd (omega arith)) ∙ ap (step_reach design s.waves) (net_here design s net slot d (λ more. absurd (omega arith))) in
    let clock = ap (λ w. w.clock) (wave_here design s net slot d (λ more. absurd (omega arith))) in
    sym (le-ltb _ _ (omega (arith, h, reach, clock)))
span_there design s net slot d (Some span) h =
    let reach = reach_is design s net slot d (λ more. sym h.before ∙ h.told) ∙ ap (step_reach design s.waves) (net_here design s net slot d (λ more. sym h.before ∙ h.told)) in
    let clock = ap (λ w. w.clock) (wave_here design s net slot d (λ more. sym h.before ∙ h.told)) in
    sym (lt-ltb _ _ (omega (arith, h.later, h.from, h.until, reach, clock)))

pub returns : goal.returns
returns c = λ design clustering cluster of own.
    let place : output_slot c.args.self.now c.args.net ≡ Some c.in-Some.slot = sym c.output_place.ensures.place ∙ c.in-Some.is in
    let drives = drives_own design clustering cluster c.args.self.now of c.args.net c.in-Some.slot (output_slot_is c.args.self.now c.args.net c.in-Some.slot place) own.own in
    c.is_some.ensures ∙ span_there design c.args.self.now c.args.net c.in-Some.slot drives c.next_span.result c.next_span.ensures.span
