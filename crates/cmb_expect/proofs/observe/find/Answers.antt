use Rattle.std.proofs.Common.{◌≡◌, ◌+◌, ◌<◌, ◌≤◌, ℕ, ◌∙◌, ap, arith, get_or, length}
use Rattle.std.proofs.lemmas.List.{get_or_default}
use Rattle.cmb_expect.specs.Inner.Traces.{level_told}
use Rattle.cmb_expect.specs.declared.probe.Probe.{Probe}
use Rattle.cmb_expect.specs.declared.trace.Trace.{Trace}
use Rattle.cmb_expect.proofs.FoundFacts.{found_more, later_at}
use Rattle.cmb_expect.proofs.observe.find.Goals as goal

abbrev none : Probe
none = record { tick = 0; net = 0; place = 0 }

pub loop-done-preserved : goal.loop-done-preserved
loop-done-preserved c = (
  omega arith,
  omega arith,
  λ level from later traces before.
      let probes = c.args.probes.now in
      let p = get_or probes c.loop-done.done none in
      let trace = c.index-traces-probe.result in
      let inside : c.loop-done.done < length probes = c.loop-done-test.true in
      let lawful = c.requires.probes.each c.loop-done.done none inside in
      let reached : from ≤ p.tick = later c.loop-done.done none c.loop-done.invariant.0 inside in
      let told : level_told (get_or c.args.traces.now p.net trace) p.tick ≡ level p.net p.tick = (traces.each p.net trace lawful.0).told p.tick (omega (arith, reached)) c.if-probes-done.true in
      found_more level (length c.args.traces.now) 1000000 probes c.loop-done.done p c.loop-done.found c.level.result (rw c.loop-done.auto.found c.requires.probes) inside (get_or_default probes c.loop-done.done none p inside)
      (c.level.ensures ∙ ap (λ (t : Trace). level_told t p.tick) c.index-traces-probe.is ∙ told)
      (c.loop-done.invariant.2 level from later traces before),
)

pub returns-else-probes-done-clause-later : goal.returns-else-probes-done-clause-later
returns-else-probes-done-clause-later c =
    later_at c.args.clock c.args.probes.now c.loop-done.done (get_or c.args.probes.now c.loop-done.done none) c.requires.probes.rising c.loop-done-test.true
    (get_or_default c.args.probes.now c.loop-done.done none _ c.loop-done-test.true) c.if-probes-done.false
