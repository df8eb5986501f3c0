use Rattle.std.proofs.lemmas.Result.{on_ok_weaker}
use Rattle.cmb_run_rounds.proofs.RoundFacts.{on_both, round_at, round_brings_on}
use Rattle.cmb_run_rounds.proofs.rounds.round.Goals as goal

pub returns-clause-further : goal.returns-clause-further
returns-clause-further g c = λ tick at within.
    on_both c.pass_on.result _ _ _
    (λ exchanged homes. round_brings_on g.T.ClusterRun.design g.T.ClusterRun.clustering c.args.hands.now c.step.new.hands c.pass_on.new.hands c.requires.hands c.in_ok-step.ensures.on homes exchanged tick at within)
    c.pass_on.ensures.exchanged c.pass_on.ensures.homes

pub returns-clause-events : goal.returns-clause-events
returns-clause-events g c = λ clocks at.
    on_ok_weaker c.pass_on.result (round_at g.T.ClusterRun.design g.T.ClusterRun.clustering clocks c.pass_on.new.hands) (c.pass_on.ensures.events _ (c.in_ok-step.ensures.events clocks at))
