use Rattle.std.proofs.Common.{◌≡◌, ◌∙◌, ◌<◌, ◌≤◌, ◌+◌, ℕ, suc, ap, arith, subst, sym, true≢false}
use Rattle.cmb_design_model.specs.Design.{Design}
use Rattle.cmb_design_model.specs.Exact.{nets_of}
use Rattle.cmb_run_rounds.specs.Inner.Rounds.{AreAt, AreKnownTo, known_at_home}
use Rattle.cmb_run_rounds.specs.RoundEvents.{AreRounds, clocks_of_rounds}
use Rattle.cmb_run_rounds.proofs.RoundFacts.{done_at, not_yet, rounds_more}
use Rattle.cmb_run_rounds.proofs.rounds.all_rounds.Goals as goal

pub loop-tick-init : goal.loop-tick-init
loop-tick-init g c = record {
  kept = c.requires.hands;
  known = record { outs = λ net there. omega arith; ins = λ worker net inside reads. omega arith };
  least = λ fewer some none. absurd (omega arith);
  at = c.requires.new;
}

pub loop-tick-preserved : goal.loop-tick-preserved
loop-tick-preserved g c =
    let horizon : c.args.design.now.horizon ≡ g.T.ClusterRun.design.horizon = ap (λ (d : Design). d.horizon) c.requires.design in
    let below : suc c.loop-tick.tick ≤ g.T.ClusterRun.design.horizon = omega (arith, c.loop-tick-test.true, c.horizon-tick-end.ensures, horizon) in
    let next : suc c.loop-tick.tick ≡ c.loop-tick.tick + 1 = omega arith in
    let at : AreAt g.T.ClusterRun.design g.T.ClusterRun.clustering (clocks_of_rounds g.T.ClusterRun.design g.T.ClusterRun.clustering (c.loop-tick.tick + 1)) c.round.new.hands =
    rounds_more g.T.ClusterRun.design g.T.ClusterRun.clustering c.loop-tick.tick (c.loop-tick.tick + 1) c.round.new.hands next (c.in_ok-round.ensures.events _ c.loop-tick.invariant.at)
    in
    record {
      kept = c.in_ok-round.ensures.kept;
      known = subst (λ (n : ℕ). AreKnownTo g.T.ClusterRun.design g.T.ClusterRun.clustering n c.round.new.hands) next (c.in_ok-round.ensures.further c.loop-tick.tick c.loop-tick.invariant.known below);
      least = not_yet g.T.ClusterRun.design g.T.ClusterRun.clustering c.loop-tick.tick (c.loop-tick.tick + 1) c.round.new.hands next c.loop-tick.invariant.least at
          (λ all. true≢false (sym (c.all_complete.ensures.1 all) ∙ c.if-all_complete.false));
      at = at;
    }

pub returns-then-all_complete-clause-rounds : goal.returns-then-all_complete-clause-rounds
returns-then-all_complete-clause-rounds g c =
    let horizon : c.args.design.now.horizon ≡ g.T.ClusterRun.design.horizon = ap (λ (d : Design). d.horizon) c.requires.design in
    let next : suc c.loop-tick.tick ≡ c.loop-tick.tick + 1 = omega arith in
    let at : AreAt g.T.ClusterRun.design g.T.ClusterRun.clustering (clocks_of_rounds g.T.ClusterRun.design g.T.ClusterRun.clustering (c.loop-tick.tick + 1)) c.round.new.hands =
    rounds_more g.T.ClusterRun.design g.T.ClusterRun.clustering c.loop-tick.tick (c.loop-tick.tick + 1) c.round.new.hands next (c.in_ok-round.ensures.events _ c.loop-tick.invariant.at)
    in
    record {
      few = omega (arith, c.loop-tick-test.true, c.horizon-tick-end.ensures, horizon);
      enough = done_at g.T.ClusterRun.design g.T.ClusterRun.clustering c.round.new.hands _ at (c.all_complete.ensures.0 c.if-all_complete.true);
      least = λ fewer some less. c.loop-tick.invariant.least fewer some (omega arith);
    }

pub returns-clause-complete : goal.returns-clause-complete
returns-clause-complete g c = λ net there.
    let horizon : c.args.design.now.horizon ≡ g.T.ClusterRun.design.horizon = ap (λ (d : Design). d.horizon) c.requires.design in
    omega (arith, c.loop-tick.invariant.known.outs net there, c.loop-tick-test.false, c.horizon-tick-end.ensures, horizon)

pub returns-clause-rounds : goal.returns-clause-rounds
returns-clause-rounds g c =
    let horizon : c.args.design.now.horizon ≡ g.T.ClusterRun.design.horizon = ap (λ (d : Design). d.horizon) c.requires.design in
    let last : c.loop-tick.tick ≡ c.horizon.result = omega (arith, c.loop-tick-test.false, c.loop-tick.auto.tick-end, c.horizon-tick-end.ensures, c.horizon.ensures) in
    let known : (net : ℕ) → net < nets_of g.T.ClusterRun.design → g.T.ClusterRun.design.horizon ≤ known_at_home g.T.ClusterRun.clustering c.loop-tick.hands net =
    λ net there. omega (arith, c.loop-tick.invariant.known.outs net there, c.loop-tick-test.false, c.horizon-tick-end.ensures, horizon)
    in
    subst (AreRounds g.T.ClusterRun.design g.T.ClusterRun.clustering) last (record {
      few = omega (arith, last, c.horizon.ensures, horizon);
      enough = done_at g.T.ClusterRun.design g.T.ClusterRun.clustering c.loop-tick.hands _ c.loop-tick.invariant.at known;
      least = λ fewer some less. c.loop-tick.invariant.least fewer some (omega arith);
    })
