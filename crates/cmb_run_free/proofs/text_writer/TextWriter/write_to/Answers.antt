use Rattle.std.proofs.Common.{rules, ◌≡◌, ◌∙◌, Some, length, ap, arith, refl, subst, sym}
use Rattle.std.specs.Io.KnownBytes.{Appends}
use Rattle.std.specs.Prelude.{unwrap_or}
use Rattle.std.proofs.lemmas.Result.{err_from_is_err_and}
use Rattle.cmb_run_text.specs.Collector.{IsExactFrom, least}
use Rattle.cmb_run_free.specs.Inner.TextWriters.{Backlog, IsWithin, told}
use Rattle.cmb_run_free.proofs.TextWriterFacts.{HasBegun-told, IsCutOff-told, text_writer-more, told-more-fits, told-to}
use Rattle.cmb_run_free.proofs.text_writer.TextWriter.write_to.Goals as goal

pub returns-in-Ok-clause-upto : goal.returns-in-Ok-clause-upto
returns-in-Ok-clause-upto g c =
    let backlog = c.self.inside.backlog in
    let is = c.collector-collector.ensures.collector in
    let exact : IsExactFrom g.T.ClusterRun.design (unwrap_or backlog.written 0) backlog.collector = subst (IsExactFrom g.T.ClusterRun.design (unwrap_or backlog.written 0)) is c.collector-collector.ensures.exact in
    told-to g.T.ClusterRun.design backlog c.wrote.new.self c.least-least.result exact (c.least-least.ensures ∙ ap least is) c.wrote.ensures

pub returns-in_err-part-clause-fault : goal.returns-in_err-part-clause-fault
returns-in_err-part-clause-fault g c start taken =
    let p = err_from_is_err_and c.from_residual.result c.from_residual.ensures.1 in
    rw (p.1, p.2) (HasBegun-told g.T.ClusterRun.design _ start _ (subst (λ (b : Backlog). IsWithin g.T.ClusterRun.design b.written) c.self.view_is c.self.invariant.within) taken, refl)

pub overflow_add-self : goal.overflow_add-self
overflow_add-self g c =
    let fits = told-more-fits g.T.ClusterRun.design _ _ _ _ c.in_ok-part.part.items c.self.invariant c.collector-collector.ensures.exact c.in_ok-part.ensures.exact in
    let len : c.len.result ≡ length c.in_ok-part.part.items = search rules in
    omega arith

pub overflow_add-result : goal.overflow_add-result
overflow_add-result g c =
    let fits = told-more-fits g.T.ClusterRun.design _ _ _ _ c.in_ok-part.part.items c.self.invariant c.collector-collector.ensures.exact c.in_ok-part.ensures.exact in
    let short = c.in-Err.ensures.err.0 in
    let len : length c.deref.result.now ≡ length c.in_ok-part.part.items = ap length c.deref.ensures.value in
    omega arith

pub returns-clause-fault : goal.returns-clause-fault
returns-clause-fault g c start taken =
    let end = c.in-Err.ensures.err in
    let begun = subst (λ (b : Backlog). Appends start (g.S.Sink.taken c.args.sink.now) (told g.T.ClusterRun.design b.written)) (sym c.self.view_is) taken in
    IsCutOff-told g.T.ClusterRun.design _ _ _ _ c.in_ok-part.part.items c.self.invariant c.collector-collector.ensures.exact c.in_ok-part.ensures.exact
    start _ _ _ _ c.in-Err.count (search rules) begun (search rules) c.in-Err.ensures.failed

pub invariant_of-self-in-Ok : goal.invariant_of-self-in-Ok
invariant_of-self-in-Ok g c =
    text_writer-more g.T.ClusterRun.design _ _ _ _ c.in_ok-part.part.items c.self.invariant c.collector-collector.ensures.exact c.in_ok-part.ensures.exact
    c.wrote.new.self _ c.len.result (ap (λ b. b.written) c.wrote.ensures ∙ ap Some c.least-least.ensures) c.in_ok-part.ensures.done (search rules)

pub invariant_of-self-2 : goal.invariant_of-self-2
invariant_of-self-2 g c =
    text_writer-more g.T.ClusterRun.design _ _ _ _ c.in_ok-part.part.items c.self.invariant c.collector-collector.ensures.exact c.in_ok-part.ensures.exact
    c.wrote.new.self _ c.len.result (ap (λ b. b.written) c.wrote.ensures ∙ ap Some c.least-least.ensures) c.in_ok-part.ensures.done (search rules)
