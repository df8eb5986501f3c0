use Rattle.std.proofs.Common.{◌≡◌, ℕ, map, ap, arith, subst, ◌∙◌}
use Rattle.cmb_wave.specs.Wave.{new_wave}
use Rattle.cmb_netlist.specs.Netlist.{IsNetlist}
use Rattle.cmb_design_model.specs.Design.{Design}
use Rattle.cmb_design_model.specs.Exact.{nets_of}
use Rattle.cmb_core_cluster.specs.Clustering.{Clustering, IsClustering}
use Rattle.cmb_core_cluster.specs.Opened.{held_nets}
use Rattle.cmb_run_rounds.proofs.RoundFacts.{dealt_hands, dealt_more}
use Rattle.cmb_run_rounds.proofs.rounds.deal.Goals as goal

pub loop-worker-preserved : goal.loop-worker-preserved
loop-worker-preserved g c =
    let new : c.in_ok-open.field-0.cluster.waves ≡ map new_wave (held_nets g.T.ClusterRun.design g.T.ClusterRun.clustering c.loop-worker.worker) =
    c.in_ok-open.ensures.new ∙ ap (λ (d : Design). map new_wave (held_nets d c.args.clustering.now c.loop-worker.worker)) c.requires.design_is
    ∙ ap (λ (k : Clustering). map new_wave (held_nets g.T.ClusterRun.design k c.loop-worker.worker)) c.requires.clustering_is
    in
    rw c.in_ok-push.ensures.items (dealt_more g.T.ClusterRun.design g.T.ClusterRun.clustering c.loop-worker.worker c.loop-worker.hands.items c.in_ok-open.field-0 c.loop-worker.invariant c.in_ok-open.ensures.of new)

pub returns : goal.returns
returns g c =
    let netlist : IsNetlist g.T.ClusterRun.design.netlist = subst IsNetlist (c.netlist.ensures ∙ ap (λ (d : Design). d.netlist) c.requires.design_is) c.len-nets.ensures.sound in
    let lawful : IsClustering (nets_of g.T.ClusterRun.design) g.T.ClusterRun.clustering =
    subst (λ (k : Clustering). IsClustering (nets_of g.T.ClusterRun.design) k) c.requires.clustering_is (subst (λ (n : ℕ). IsClustering n c.args.clustering.now) (c.requires.nets ∙ ap nets_of c.requires.design_is) c.clusters-count.ensures.lawful)
    in
    let clusters : c.args.clustering.now.clusters ≡ g.T.ClusterRun.clustering.clusters = ap (λ (k : Clustering). k.clusters) c.requires.clustering_is in
    let dealt = dealt_hands g.T.ClusterRun.design g.T.ClusterRun.clustering c.loop-worker.worker c.loop-worker.hands.items netlist lawful c.loop-worker.invariant
    (omega (arith, c.loop-worker-test.false, c.loop-worker.auto.worker-end, c.clusters-count.ensures.count, clusters))
    in
    record { of = dealt.0; new = dealt.1 }
