use Rattle.std.proofs.Common.{List, None, Some, subst, sym}
use Rattle.cmb_graph.specs.Inner.Search.{IsScanned, IsUnderWay}
use Rattle.cmb_graph.specs.declared.search.Frame.{Frame}
use Rattle.cmb_graph.proofs.path.follow.Goals as goal

pub loop-frame-init : goal.loop-frame-init
loop-frame-init c = record { under = c.requires; still = λ net new. new }

pub descend-requires : goal.descend-requires
descend-requires c =
    subst (λ (frames : List Frame). IsScanned c.args.netlist.now c.args.steps c.scan.new.search frames c.in-Some.frame.place (Some c.in-Some-scan.next))
    (sym c.scan.ensures.frames) c.in-Some-scan.ensures.scanned

pub leave-requires : goal.leave-requires
leave-requires c =
    subst (λ (frames : List Frame). IsScanned c.args.netlist.now c.args.steps c.scan.new.search frames c.in-Some.frame.place None) (sym c.scan.ensures.frames) c.in-None.ensures.scanned

pub loop-frame-preserved : goal.loop-frame-preserved
loop-frame-preserved c = record {
  under = subst (IsUnderWay c.args.netlist.now c.args.steps c.leave.new.search) (sym c.leave.ensures.frames) c.leave.ensures.under;
  still = λ net new. c.loop-frame.invariant.still net (rw c.scan.ensures.seen at (c.leave.ensures.still net new));
}
