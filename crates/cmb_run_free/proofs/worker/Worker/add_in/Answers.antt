use Rattle.std.proofs.Common.{All, IsSome, ap, subst, sym}
use Rattle.std.proofs.lemmas.List.Elements.{All-push}
use Rattle.cmb_core_cluster.specs.Clusters.{Cluster, input_slot}
use Rattle.cmb_run_free.specs.Inner.Channels.{IsFedBy}
use Rattle.cmb_run_free.specs.Inner.Turns.{Working}
use Rattle.cmb_run_free.proofs.ChannelFacts.{IsFedBy-new}
use Rattle.cmb_run_free.proofs.worker.Worker.add_in.Goals as goal

pub invariant_of-self : goal.invariant_of-self
invariant_of-self g c = rw c.in_err-push.ensures.items c.self.invariant

pub invariant_of-self-2 : goal.invariant_of-self-2
invariant_of-self-2 g c =
    let here = c.self.inside.cluster in
    let read : All (λ net. IsSome (input_slot here net)) c.args.end.nets =
    subst (λ (s : Cluster). All (λ net. IsSome (input_slot s net)) c.args.end.nets) (sym (ap (λ (w : Working). w.cluster) c.self.view_is)) c.requires.read in
    rw c.in_ok-push.ensures.items (All-push (IsFedBy here) c.self.inside.ins.items c.args.end c.self.invariant (IsFedBy-new here c.args.end read c.requires.new))
