use Rattle.std.proofs.Common.{◌≡◌, None, Option, rules, subst}
use Rattle.std.proofs.lemmas.List.Elements.{All-set}
use Rattle.cmb_wave.specs.Wave.{Piece}
use Rattle.cmb_run_free.specs.Inner.Channels.{IsFurther, IsOutlet, due}
use Rattle.cmb_run_free.specs.Inner.Turns.{outbound}
use Rattle.cmb_run_free.proofs.ChannelFacts.{IsOutbound-left, all_outlets-further}
use Rattle.cmb_run_free.proofs.TurnFacts.{OutGoes-again}
use Rattle.cmb_run_free.proofs.outbound.Out.put_nets.Goals as goal

pub returns-in_err-put_net : goal.returns-in_err-put_net
returns-in_err-put_net g c =
    OutGoes-again g.T.ClusterRun.design g.T.ClusterRun.clustering c.args.cluster.now c.args.self.now (outbound c.loop.self-inside.end c.loop.self-inside.waiting) (outbound c.put_net.new.end c.put_net.new.waiting)
    c.loop.invariant.goes c.put_net.ensures.goes

pub returns-then-not-branch : goal.returns-then-not-branch
returns-then-not-branch g c =
    OutGoes-again g.T.ClusterRun.design g.T.ClusterRun.clustering c.args.cluster.now c.args.self.now (outbound c.loop.self-inside.end c.loop.self-inside.waiting) (outbound c.put_net.new.end c.put_net.new.waiting)
    c.loop.invariant.goes c.put_net.ensures.goes

pub loop-preserved : goal.loop-preserved
loop-preserved g c =
    let horizon = g.T.ClusterRun.design.horizon in
    let inside = c.loop.self-inside in
    let end = c.put_net.new.end in
    let none : c.put_net.new.waiting ≡ None = search rules in
    let Here : Option Piece → Type 0 = λ w. IsOutlet horizon (due end w) c.put_net.new.outlet in
    let Further : Option Piece → Type 0 = λ w. IsFurther inside.end (due end w) in
    record {
      none = none;
      kept = All-set (IsOutlet horizon end) inside.outlets.items c.if-self-len.place c.put_net.new.outlet (subst Here none c.put_net.ensures.outlet)
          (all_outlets-further horizon inside.end end (subst Further none c.put_net.ensures.further) inside.outlets.items c.loop.invariant.kept);
      long = c.loop.invariant.long;
      goes = OutGoes-again g.T.ClusterRun.design g.T.ClusterRun.clustering c.args.cluster.now c.args.self.now (outbound inside.end inside.waiting) (outbound end c.put_net.new.waiting) c.loop.invariant.goes c.put_net.ensures.goes;
    }

pub invariant_of-self-2 : goal.invariant_of-self-2
invariant_of-self-2 g c =
    IsOutbound-left g.T.ClusterRun.design.horizon c.loop.self-inside.end c.loop.self-inside.waiting c.loop.self-inside.outlets.items c.leave_out_done.new.nets.items
    c.loop.invariant.none c.loop.invariant.kept c.leave_out_done.ensures
