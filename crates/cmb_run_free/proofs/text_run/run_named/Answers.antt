use Rattle.std.proofs.Common.{refl, subst, ◌∙◌}
use Rattle.std.proofs.lemmas.Result.{err_from_is_err_and}
use Rattle.std.specs.Prelude.{unwrap_or}
use Rattle.cmb_run_text.specs.Collector.{IsComplete, IsExactFrom}
use Rattle.cmb_run_text.specs.Vcd.{vcd}
use Rattle.cmb_run_text.proofs.BeginFacts.{HasBegun-none}
use Rattle.cmb_run_free.specs.Inner.TextWriters.{IsUnfinished}
use Rattle.cmb_run_free.proofs.TextRuns.{IsCutAt-unfinished, told-whole}
use Rattle.cmb_run_free.proofs.text_run.run_named.Goals as goal

pub returns-in_default : goal.returns-in_default
returns-in_default g c = record { told = tt; text = tt; no_failure = tt; fault = (HasBegun-none (vcd c.args.design.now) (g.S.Sink.taken c.args.sink.now), refl) }

pub returns-in_err-given : goal.returns-in_err-given
returns-in_err-given g c =
    let told = c.run_crew-text_writer in
    let backlog = told.result.0 in
    let exact : IsExactFrom g.T.ClusterRun.design (unwrap_or backlog.written 0) backlog.collector = rw c.into_collector.ensures.collector at c.into_collector.ensures.exact in
    let why : IsUnfinished told.result.1 backlog.collector c.in_err-given.field-0.0 = rw c.into_collector.ensures.collector at c.in_err-given.ensures.fault in
    let p = err_from_is_err_and c.from_residual-in_err-given.result c.from_residual-in_err-given.ensures.1 in
    rw (c.requires.run.design_is, p.1, p.2) (record {
      told = tt;
      text = tt;
      no_failure = tt;
      fault = IsCutAt-unfinished g.T.ClusterRun.design _ _ _ _ backlog exact told.result.1 _ told.ensures why;
    })

pub returns : goal.returns
returns g c =
    let told = c.run_crew-text_writer in
    let backlog = told.result.0 in
    let exact : IsExactFrom g.T.ClusterRun.design (unwrap_or backlog.written 0) backlog.collector = rw c.into_collector.ensures.collector at c.into_collector.ensures.exact in
    let complete : IsComplete backlog.collector = subst IsComplete (c.in_ok-given.ensures.same ∙ c.into_collector.ensures.collector) c.in_ok-given.ensures.complete in
    let all = told-whole g.T.ClusterRun.design _ _ _ _ backlog exact told.result.1 c.in_ok-given.given told.ensures c.in_ok-given.ensures.given complete in
    rw c.requires.run.design_is (record { told = all.0; text = all.1; no_failure = all.2; fault = tt })
