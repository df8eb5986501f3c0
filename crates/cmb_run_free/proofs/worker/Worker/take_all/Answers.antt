use Rattle.std.proofs.Common.{◌++◌, ap, drop, length}
use Rattle.std.proofs.lemmas.List.Elements.{All-append, All-drop, All-take}
use Rattle.cmb_run_free.specs.Inner.Channels.{IsFedBy}
use Rattle.cmb_run_free.specs.Inner.Turns.{Working, working}
use Rattle.cmb_run_free.proofs.ChannelFacts.{all_fed-later}
use Rattle.cmb_run_free.proofs.TurnFacts.{IsCutShort-seen}
use Rattle.cmb_run_free.proofs.worker.Worker.take_all.Goals as goal

pub invariant_of-self-2 : goal.invariant_of-self-2
invariant_of-self-2 g c =
    let fed = IsFedBy c.take_each.new.cluster in
    let ends = c.take_each.new.ends in
    let old = c.self.inside.ins.items in
    All-take fed c.self.inside.ins.len (ends ++ drop (length ends) old)
    (All-append fed ends (drop (length ends) old) c.in-Ok.ensures.fed (All-drop fed (length ends) old (all_fed-later c.self.inside.cluster c.take_each.new.cluster c.in-Ok.ensures.later old c.self.invariant)))

pub returns-in-Err : goal.returns-in-Err
returns-in-Err g c =
    let inside = c.self.inside in
    IsCutShort-seen g.T.ClusterRun.design g.T.ClusterRun.clustering c.args.self.now (working c.take_each.new.cluster c.clear.new.self.items inside.outs.items inside.worker_seat.seat.view)
    (ap (λ (w : Working). w.outs) c.self.view_is) (ap (λ (w : Working). w.seat) c.self.view_is)
