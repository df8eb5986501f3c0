use Rattle.std.proofs.Common.{◌≡◌, ◌<◌, length, get_or, ap, arith}
use Rattle.cmb_design_model.specs.Exact.{nets_of}
use Rattle.cmb_core_cluster.specs.Clustering.{Clustering}
use Rattle.cmb_core_cluster.specs.Opened.{read_nets}
use Rattle.cmb_run_rounds.proofs.RoundFacts.{inputs_are, read_of, served_all, served_more}
use Rattle.cmb_run_rounds.proofs.rounds.pass_to.Goals as goal

pub of-requires : goal.of-requires
of-requires g c =
    let reads = read_nets g.T.ClusterRun.design g.T.ClusterRun.clustering c.args.reader in
    let first : c.inputs-place-end.result.now ≡ reads = inputs_are g.T.ClusterRun.design g.T.ClusterRun.clustering c.args.hands.now c.requires.hands c.args.reader c.requires.reader c.index-hands-reader.result c.inputs-place-end.result.now c.inputs-place-end.ensures in
    let here : c.inputs.result.now ≡ reads = inputs_are g.T.ClusterRun.design g.T.ClusterRun.clustering c.loop-place.hands c.loop-place.invariant.kept c.args.reader c.requires.reader c.index-hands-reader-in-loop-place.result c.inputs.result.now c.inputs.ensures in
    let place : c.loop-place.place < length reads = omega (arith, c.loop-place-test.true, ap length first) in
    let nets : length g.T.ClusterRun.clustering.assign ≡ nets_of g.T.ClusterRun.design = c.requires.hands.lawful.each in
    let assign : length c.args.clustering.now.assign ≡ length g.T.ClusterRun.clustering.assign = ap (λ (k : Clustering). length k.assign) c.requires.clustering in
    omega (arith, (read_of g.T.ClusterRun.design g.T.ClusterRun.clustering c.args.reader c.loop-place.place c.inputs.result.now here place).0, nets, assign)

pub pass_net-requires-clause-reads : goal.pass_net-requires-clause-reads
pass_net-requires-clause-reads g c =
    let reads = read_nets g.T.ClusterRun.design g.T.ClusterRun.clustering c.args.reader in
    let first : c.inputs-place-end.result.now ≡ reads = inputs_are g.T.ClusterRun.design g.T.ClusterRun.clustering c.args.hands.now c.requires.hands c.args.reader c.requires.reader c.index-hands-reader.result c.inputs-place-end.result.now c.inputs-place-end.ensures in
    let here : c.inputs.result.now ≡ reads = inputs_are g.T.ClusterRun.design g.T.ClusterRun.clustering c.loop-place.hands c.loop-place.invariant.kept c.args.reader c.requires.reader c.index-hands-reader-in-loop-place.result c.inputs.result.now c.inputs.ensures in
    let place : c.loop-place.place < length reads = omega (arith, c.loop-place-test.true, ap length first) in
    (read_of g.T.ClusterRun.design g.T.ClusterRun.clustering c.args.reader c.loop-place.place c.inputs.result.now here place).1

pub loop-place-preserved : goal.loop-place-preserved
loop-place-preserved g c =
    let reads = read_nets g.T.ClusterRun.design g.T.ClusterRun.clustering c.args.reader in
    let first : c.inputs-place-end.result.now ≡ reads = inputs_are g.T.ClusterRun.design g.T.ClusterRun.clustering c.args.hands.now c.requires.hands c.args.reader c.requires.reader c.index-hands-reader.result c.inputs-place-end.result.now c.inputs-place-end.ensures in
    let here : c.inputs.result.now ≡ reads = inputs_are g.T.ClusterRun.design g.T.ClusterRun.clustering c.loop-place.hands c.loop-place.invariant.kept c.args.reader c.requires.reader c.index-hands-reader-in-loop-place.result c.inputs.result.now c.inputs.ensures in
    let place : c.loop-place.place < length reads = omega (arith, c.loop-place-test.true, ap length first) in
    served_more g.T.ClusterRun.design g.T.ClusterRun.clustering c.args.reader c.loop-place.place (get_or c.inputs.result.now c.loop-place.place 0) c.args.hands.now c.loop-place.hands c.pass_net.new.hands c.loop-place.invariant
    (ap (λ ns. get_or ns c.loop-place.place 0) here) (read_of g.T.ClusterRun.design g.T.ClusterRun.clustering c.args.reader c.loop-place.place c.inputs.result.now here place).1
    c.in_ok-pass_net.ensures.kept c.in_ok-pass_net.ensures.passed

pub returns-clause-served : goal.returns-clause-served
returns-clause-served g c =
    let reads = read_nets g.T.ClusterRun.design g.T.ClusterRun.clustering c.args.reader in
    let first : c.inputs-place-end.result.now ≡ reads = inputs_are g.T.ClusterRun.design g.T.ClusterRun.clustering c.args.hands.now c.requires.hands c.args.reader c.requires.reader c.index-hands-reader.result c.inputs-place-end.result.now c.inputs-place-end.ensures in
    served_all g.T.ClusterRun.design g.T.ClusterRun.clustering c.args.reader c.loop-place.place c.args.hands.now c.loop-place.hands c.loop-place.invariant (omega (arith, c.loop-place-test.false, ap length first))
