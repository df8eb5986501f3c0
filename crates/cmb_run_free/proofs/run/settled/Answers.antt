use Rattle.std.proofs.lemmas.Result.{err_from_is_err_and}
use Rattle.cmb_run_free.proofs.RunFacts.{decided-unfinished, stopped-unfinished}
use Rattle.cmb_run_free.proofs.run.settled.Goals as goal

pub returns-in_err-given-clause-fault : goal.returns-in_err-given-clause-fault
returns-in_err-given-clause-fault c =
    let p = err_from_is_err_and c.from_residual.result c.from_residual.ensures.1 in
    rw (p.1, p.2) (decided-unfinished c.args.given c.args.collector _ c.in_err-given.ensures.fault)

pub returns-in_err-collector-clause-fault : goal.returns-in_err-collector-clause-fault
returns-in_err-collector-clause-fault c =
    let p = err_from_is_err_and c.from_residual-in_err-collector.result c.from_residual-in_err-collector.ensures.1 in
    rw (p.1, p.2) (stopped-unfinished c.args.given _ c.args.collector _ c.in_ok-given.ensures.ok c.in_err-collector.ensures.fault)
