use Rattle.std.proofs.lemmas.Result.{err_from_is_err_and}
use Rattle.cmb_run_free.specs.Inner.Turns.{Goes}
use Rattle.cmb_run_free.proofs.TurnFacts.{Goes-again, IsCutShort-again}
use Rattle.cmb_run_free.proofs.worker.Worker.turns.Goals as goal
use Rattle.cmb_run_free.proofs.worker.Worker.turns.Goals.{in-None, in-Some+then-not-goes_on, then-not-goes_on-via-then-not-goes_on, then-not-goes_on-via-else-not-goes_on+in_ok-turn+then-branch}

pub returns-in_err-turn : goal.returns-in_err-turn
returns-in_err-turn g c =
    let design = g.T.ClusterRun.design in
    let clustering = g.T.ClusterRun.clustering in
    let p = err_from_is_err_and c.from_residual.result c.from_residual.ensures.1 in
    rw p.1 (IsCutShort-again design clustering c.args.self.now c.goes_on.new.self c.turn.new.self
    (Goes-again design clustering c.args.self.now c.loop.self c.goes_on.new.self c.loop.invariant.2 c.goes_on.ensures) c.in_err-turn.ensures)

pub loop-preserved : goal.loop-preserved
loop-preserved g c =
    let design = g.T.ClusterRun.design in
    let clustering = g.T.ClusterRun.clustering in
    let asked = Goes-again design clustering c.args.self.now c.loop.self c.goes_on.new.self c.loop.invariant.2 c.goes_on.ensures in
    (tt, tt, Goes-again design clustering c.args.self.now c.goes_on.new.self c.turn.new.self asked c.in_ok-turn.ensures)

pub returns : goal.returns
returns g c =
    let design = g.T.ClusterRun.design in
    let clustering = g.T.ClusterRun.clustering in
    let old = c.args.self.now in
    elim c.match-next.branch [
      | in-None w ↦ rw w.self-is c.loop.invariant.2
      | in-Some+then-not-goes_on w ↦
          let asked = Goes-again design clustering old c.loop.self w.goes_on.new.self c.loop.invariant.2 w.goes_on.ensures in
          let last : Goes design clustering old w.then-not-goes_on.self = elim w.then-not-goes_on.branch [
            | then-not-goes_on-via-then-not-goes_on v ↦ rw v.self-is asked
            | then-not-goes_on-via-else-not-goes_on+in_ok-turn+then-branch v ↦ rw v.self-is (Goes-again design clustering old w.goes_on.new.self v.turn.new.self asked v.in_ok-turn.ensures)
          ] in
          rw w.self-is last
    ]
