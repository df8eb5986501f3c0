use Rattle.std.proofs.Common.{Option, Some, subst, sym}
use Rattle.cmb_wave.specs.Wave.{Piece}
use Rattle.cmb_run_free.specs.Inner.Turns.{OutGoes, outbound}
use Rattle.cmb_run_free.proofs.TurnFacts.{OutGoes-is, put_goes}
use Rattle.cmb_run_free.proofs.outbound.put_or_keep.Goals as goal

pub returns-in-Ok-clause-goes : goal.returns-in-Ok-clause-goes
returns-in-Ok-clause-goes g c = λ cluster.
    let P : Option Piece → Type 0 = λ w. OutGoes g.T.ClusterRun.design g.T.ClusterRun.clustering cluster (outbound c.args.end.now (Some c.args.posted)) (outbound c.put.new.self w) in
    subst P (sym c.requires.none) (put_goes g.T.ClusterRun.design g.T.ClusterRun.clustering cluster c.args.end.now c.put.new.self c.args.posted c.in-Ok.ensures.ok)

pub returns-in-Err-clause-goes : goal.returns-in-Err-clause-goes
returns-in-Err-clause-goes g c = λ cluster.
    OutGoes-is g.T.ClusterRun.design g.T.ClusterRun.clustering cluster (outbound c.args.end.now (Some c.args.posted)) (outbound c.put.new.self (Some c.in-Err.posted)) (cc (c.in-Err.ensures.same, c.in-Err.ensures.back))
