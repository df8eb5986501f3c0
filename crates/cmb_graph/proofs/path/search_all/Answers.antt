use Rattle.std.proofs.Common.{◌≡◌, ◌<◌, ◌≤◌, ℕ, length, arith}
use Rattle.cmb_graph.specs.Inner.Search.{seen_of}
use Rattle.cmb_graph.specs.declared.search.Seen.TheVariants.{Done}
use Rattle.cmb_graph.proofs.NumberFacts.{numbered_all}
use Rattle.cmb_graph.proofs.PathFacts.{all_done, looped_all}
use Rattle.cmb_graph.proofs.path.search_all.Goals.{After-loop-net}
use Rattle.cmb_graph.proofs.path.search_all.Goals as goal

done : (c : After-loop-net) → (net : ℕ) → net < length c.args.netlist.now.names → seen_of c.loop-net.search.seen.items net ≡ Done
done c =
    let far : length c.args.netlist.now.names ≤ c.loop-net.net = omega (arith, c.loop-net-test.false, c.len-net-end.ensures.value) in
    all_done c.args.netlist.now c.args.steps c.loop-net.search c.loop-net.net c.loop-net.invariant.under far c.loop-net.invariant.found

pub returns-clause-loops : goal.returns-clause-loops
returns-clause-loops c = looped_all c.args.netlist.now c.args.steps c.loop-net.search c.loop-net.invariant.under (done c)

pub returns-clause-parts : goal.returns-clause-parts
returns-clause-parts c = numbered_all c.args.netlist.now c.args.steps c.loop-net.search c.loop-net.invariant.under (done c)
