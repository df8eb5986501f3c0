use Rattle.std.proofs.Common.{sym, ◌∙◌}
use Rattle.cmb_run_rounds.proofs.RoundFacts.{all_go_on, stepped_hands, steps_at}
use Rattle.cmb_run_rounds.proofs.rounds.step.Goals as goal

pub returns-clause-kept : goal.returns-clause-kept
returns-clause-kept g c =
    stepped_hands g.T.ClusterRun.design g.T.ClusterRun.clustering c.args.hands.now c.work_all.new.hands c.requires c.work_all.ensures.count c.work_all.ensures.each (sym c.some_refused.ensures ∙ c.if-some_refused.false)

pub returns-clause-on : goal.returns-clause-on
returns-clause-on g c =
    all_go_on g.T.ClusterRun.design g.T.ClusterRun.clustering c.args.hands.now c.work_all.new.hands c.requires c.work_all.ensures.count c.work_all.ensures.each (sym c.some_refused.ensures ∙ c.if-some_refused.false)

pub returns-clause-events : goal.returns-clause-events
returns-clause-events g c =
    steps_at g.T.ClusterRun.design g.T.ClusterRun.clustering c.args.hands.now c.work_all.new.hands c.requires c.work_all.ensures.count c.work_all.ensures.each (sym c.some_refused.ensures ∙ c.if-some_refused.false)
