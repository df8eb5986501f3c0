use Rattle.std.proofs.Common.{arith}
use Rattle.cmb_run_rounds.proofs.RoundFacts.{exchanged_all, exchanged_at, exchanged_more}
use Rattle.cmb_run_rounds.proofs.rounds.pass_on.Goals as goal

pub loop-reader-preserved : goal.loop-reader-preserved
loop-reader-preserved g c =
    exchanged_more g.T.ClusterRun.design g.T.ClusterRun.clustering c.loop-reader.reader c.args.hands.now c.loop-reader.hands c.pass_to.new.hands c.loop-reader.invariant c.in_ok-pass_to.ensures.kept c.in_ok-pass_to.ensures.served

pub returns-clause-events : goal.returns-clause-events
returns-clause-events g c =
    exchanged_at g.T.ClusterRun.design g.T.ClusterRun.clustering c.args.hands.now c.loop-reader.hands c.requires.hands
    (exchanged_all g.T.ClusterRun.design g.T.ClusterRun.clustering c.loop-reader.reader c.args.hands.now c.loop-reader.hands c.loop-reader.invariant (omega (arith, c.loop-reader-test.false, c.loop-reader.auto.reader-end, c.requires.hands.count)))
    c.loop-reader.invariant.homes
