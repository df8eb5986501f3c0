use Rattle.std.proofs.Common.{◌≡◌, ◌+◌, ℕ, List, take, get_or, ap, arith, subst, ◌∙◌}
use Rattle.std.proofs.lemmas.List.{take_all, take_more, length_push}
use Rattle.cmb_core_cluster.specs.Opened.{AreProcessesOf}
use Rattle.cmb_core_cluster.proofs.OpeningFacts.{processes_more, starts_more}
use Rattle.cmb_core_cluster.proofs.open.nodes_of.Goals as goal

pub node_of-requires-clause-net : goal.node_of-requires-clause-net
node_of-requires-clause-net c = c.requires.there c.loop-net.net-index 0 c.loop-net-test.true

pub node_of-requires-clause-placed : goal.node_of-requires-clause-placed
node_of-requires-clause-placed c = c.requires.placed c.loop-net.net-index 0 c.loop-net-test.true

pub loop-net-preserved : goal.loop-net-preserved
loop-net-preserved c =
    let one : take (c.loop-net.net-index + 1) c.args.nets.now ≡ _ = take_more c.args.nets.now c.loop-net.net-index 0 c.loop-net-test.true in
    rw (one, c.in_ok-push.ensures.items) (record {
      processes = processes_more c.args.design.now c.args.clustering.now c.args.cluster (get_or c.args.nets.now c.loop-net.net-index 0) c.in_ok-node_of.field-0 (take c.loop-net.net-index c.args.nets.now) c.loop-net.nodes.items c.loop-net.invariant.processes c.in_ok-node_of.ensures.process;
      count = length_push c.loop-net.nodes.items c.in_ok-node_of.field-0 ∙ ap (λ n. n + 1) c.loop-net.invariant.count;
      start = starts_more c.args.places.now c.in_ok-node_of.field-0 c.loop-net.nodes.items c.loop-net.invariant.start c.in_ok-node_of.ensures.starts;
    })

pub returns-clause-processes : goal.returns-clause-processes
returns-clause-processes c =
    subst (λ (nets : List ℕ). AreProcessesOf c.args.design.now c.args.clustering.now c.args.cluster nets c.loop-net.nodes.items)
    (take_all c.loop-net.net-index c.args.nets.now c.loop-net-test.false) c.loop-net.invariant.processes

pub returns-clause-count : goal.returns-clause-count
returns-clause-count c = omega (arith, c.loop-net.invariant.count, c.loop-net-test.false, c.loop-net.auto.net-index-end)
