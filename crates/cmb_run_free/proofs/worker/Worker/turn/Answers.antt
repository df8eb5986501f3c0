use Rattle.std.proofs.lemmas.Result.{err_from_is_err_and}
use Rattle.cmb_run_free.proofs.TurnFacts.{Goes-again, Goes-is, IsCutShort-again, IsCutShort-goes}
use Rattle.cmb_run_free.proofs.worker.Worker.turn.Goals as goal

pub returns-in_err-stepped : goal.returns-in_err-stepped
returns-in_err-stepped g c =
    let design = g.T.ClusterRun.design in
    let clustering = g.T.ClusterRun.clustering in
    let p = err_from_is_err_and c.from_residual-in_err-stepped.result c.from_residual-in_err-stepped.ensures.1 in
    rw p.1 (IsCutShort-again design clustering c.args.self.now c.look_all.new.self c.step.new.self
    (Goes-again design clustering c.args.self.now c.take_all.new.self c.look_all.new.self c.in_ok-take_all.ensures c.look_all.ensures) c.in_err-stepped.ensures)

pub returns-in_err-is_left : goal.returns-in_err-is_left
returns-in_err-is_left g c =
    let design = g.T.ClusterRun.design in
    let clustering = g.T.ClusterRun.clustering in
    let p = err_from_is_err_and c.from_residual-in_err-is_left.result c.from_residual-in_err-is_left.ensures.1 in
    let looked = Goes-again design clustering c.args.self.now c.take_all.new.self c.look_all.new.self c.in_ok-take_all.ensures c.look_all.ensures in
    let stepped = Goes-again design clustering c.args.self.now c.look_all.new.self c.step.new.self looked c.in_ok-stepped.ensures in
    rw p.1 (IsCutShort-goes design clustering c.args.self.now c.put_all.new.self (Goes-again design clustering c.args.self.now c.step.new.self c.put_all.new.self stepped c.put_all.ensures))

pub returns : goal.returns
returns g c =
    let design = g.T.ClusterRun.design in
    let clustering = g.T.ClusterRun.clustering in
    let old = c.args.self.now in
    let looked = Goes-again design clustering old c.take_all.new.self c.look_all.new.self c.in_ok-take_all.ensures c.look_all.ensures in
    let stepped = Goes-again design clustering old c.look_all.new.self c.step.new.self looked c.in_ok-stepped.ensures in
    let put = Goes-again design clustering old c.step.new.self c.put_all.new.self stepped c.put_all.ensures in
    let told = Goes-again design clustering old c.put_all.new.self c.publish_all.new.self put c.publish_all.ensures in
    let finished = Goes-again design clustering old c.publish_all.new.self c.finish.new.self told c.finish.ensures in
    let rested = Goes-again design clustering old c.finish.new.self c.rest.new.self finished (Goes-is design clustering c.finish.new.self c.rest.new.self c.rest.ensures) in
    Goes-again design clustering old c.rest.new.self c.all_finished.new.self rested c.all_finished.ensures
