use Rattle.std.proofs.Common.{◌≡◌, ◌∙◌, ap}
use Rattle.std.proofs.lemmas.Result.{err_from_is_err_and}
use Rattle.std.specs.Io.KnownBytes.{Appends}
use Rattle.cmb_run_free.specs.Inner.TextWriters.{told}
use Rattle.cmb_run_free.proofs.TextWriterFacts.{HasBegun-told, told-last}
use Rattle.cmb_run_free.proofs.text_run.TextWriterCollect.collect.Goals as goal
use Rattle.cmb_run_free.proofs.text_run.TextWriterCollect.collect.Goals.{in-None, in-Some+in_ok-found+in-End}

pub returns-in_err-found : goal.returns-in_err-found
returns-in_err-found g c =
    let p = err_from_is_err_and c.from_residual.result c.from_residual.ensures.1 in
    rw (p.1, p.2) (record { whole = tt; cut = (HasBegun-told g.T.ClusterRun.design _ _ _ c.loop.invariant.3 c.loop.invariant.4, c.loop.invariant.5) })

pub returns : goal.returns
returns g c =
    let same : c.match-next.self.written ≡ c.loop.self.written =
    elim c.match-next.branch [ in-None w ↦ ap (λ s. s.written) w.self-is | in-Some+in_ok-found+in-End w ↦ ap (λ s. s.written) w.self-is ∙ w.take_round.ensures ] in
    let begun : Appends (g.S.Sink.taken c.args.sink.now) (g.S.Sink.taken c.loop.sink) (told g.T.ClusterRun.design c.match-next.self.written) = rw same c.loop.invariant.4 in
    told-last g.T.ClusterRun.design _ _ _ _ _ _ _ c.write_to-2.new.self c.write_to-2.result begun c.loop.invariant.5 c.write_to-2.ensures.ok c.write_to-2.ensures.count c.write_to-2.ensures.upto c.write_to-2.ensures.no_failure c.write_to-2.ensures.fault
