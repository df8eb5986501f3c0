use Rattle.cmb_count.specs.Inner.Marks.{is_found}
use Rattle.cmb_count.proofs.FirstFacts.{first_step}
use Rattle.cmb_count.proofs.findings.found_by.Goals as goal

pub loop-net-preserved : goal.loop-net-preserved
loop-net-preserved c =
    first_step c.args.most (is_found c.args.finding c.args.design.now c.args.marks.now) c.loop-net.net c.loop-net.nets.items _ c.is_found.result c.loop-net.invariant c.is_found.ensures c.in_ok-push_first.ensures
