use Rattle.std.proofs.Common.{◌≤◌, subst, sym}
use Rattle.std.specs.Prelude.{unwrap_or}
use Rattle.cmb_run_text.specs.Collector.{IsExactFrom, least}
use Rattle.cmb_run_text.specs.Writer.{IsNotBefore}
use Rattle.cmb_run_text.proofs.ForgetFacts.{forgot_exact}
use Rattle.cmb_run_free.specs.Inner.TextWriters.{Backlog}
use Rattle.cmb_run_free.proofs.TextWriterFacts.{later-from}
use Rattle.cmb_run_free.proofs.backlog.Backlog.wrote.Goals as goal

pub invariant_of-self : goal.invariant_of-self
invariant_of-self g c =
    let later : unwrap_or c.self.inside.written 0 ≤ c.args.upto = later-from c.self.inside.written c.args.upto (subst (λ (b : Backlog). IsNotBefore b.written c.args.upto) (sym c.self.view_is) c.requires.later) in
    let known : c.args.upto ≤ least c.self.inside.collector = subst (λ (b : Backlog). c.args.upto ≤ least b.collector) (sym c.self.view_is) c.requires.known in
    subst (IsExactFrom g.T.ClusterRun.design c.args.upto) (sym c.forget.ensures) (forgot_exact g.T.ClusterRun.design (unwrap_or c.self.inside.written 0) c.args.upto c.self.inside.collector c.self.invariant later known)
