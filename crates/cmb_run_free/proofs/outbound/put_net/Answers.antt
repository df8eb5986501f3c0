use Rattle.std.proofs.Common.{Option, Some, subst, sym}
use Rattle.cmb_wave.specs.Wave.{Piece}
use Rattle.cmb_links.specs.Links.{PutData}
use Rattle.cmb_run_free.specs.Inner.Channels.{IsCut, IsFurther, IsOutlet}
use Rattle.cmb_run_free.specs.Inner.Turns.{IsCutOf, OutGoes, outbound}
use Rattle.cmb_run_free.proofs.ChannelFacts.{IsFurther-put, IsOutlet-put, cut_follows}
use Rattle.cmb_run_free.proofs.TurnFacts.{OutGoes-again, post_goes}
use Rattle.cmb_run_free.proofs.outbound.put_net.Goals as goal

pub returns-in-Some-clause-outlet : goal.returns-in-Some-clause-outlet
returns-in-Some-clause-outlet g c =
    let cut : IsCut g.T.ClusterRun.design.horizon c.args.outlet.now c.cut.new.self (Some c.in-Some.posted) = rw c.in-Some.is at c.in_ok-posted.ensures.cut in
    subst (λ (pass : PutData). IsOutlet g.T.ClusterRun.design.horizon pass c.cut.new.self) (sym c.put_or_keep.ensures.due)
    (IsOutlet-put g.T.ClusterRun.design.horizon c.args.end.now c.args.outlet.now c.cut.new.self c.in-Some.posted c.requires.outlet c.cut.ensures.net cut)

pub returns-in-Some-clause-further : goal.returns-in-Some-clause-further
returns-in-Some-clause-further g c = subst (IsFurther c.args.end.now) (sym c.put_or_keep.ensures.due) (IsFurther-put c.args.end.now c.in-Some.posted)

pub returns-in-Some-clause-goes : goal.returns-in-Some-clause-goes
returns-in-Some-clause-goes g c =
    let design = g.T.ClusterRun.design in
    let clustering = g.T.ClusterRun.clustering in
    let cluster = c.args.cluster.now in
    let pass = c.args.end.now in
    let piece = c.in-Some.posted in
    let cut : IsCut design.horizon c.args.outlet.now c.cut.new.self (Some piece) = rw c.in-Some.is at c.in_ok-posted.ensures.cut in
    let of : IsCutOf cluster piece = rw c.in-Some.is at c.in_ok-posted.ensures.of in
    let posts = post_goes design clustering cluster pass piece of (cut_follows design.horizon pass c.args.outlet.now c.cut.new.self piece c.requires.outlet cut) in
    let P : Option Piece → Type 0 = λ w. OutGoes design clustering cluster (outbound pass w) (outbound pass (Some piece)) in
    OutGoes-again design clustering cluster (outbound pass c.args.waiting.now) (outbound pass (Some piece)) (outbound c.put_or_keep.new.end c.put_or_keep.new.waiting)
    (subst P (sym c.requires.none) posts) (c.put_or_keep.ensures.goes cluster)
