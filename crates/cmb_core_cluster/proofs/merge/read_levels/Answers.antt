use Rattle.std.proofs.Common.{sym, ap, ◌∙◌}
use Rattle.std.proofs.lemmas.List.{take_all}
use Rattle.cmb_core_cluster.specs.Inner.Arrivals.{levels}
use Rattle.cmb_core_cluster.proofs.Merging.{levels_more}
use Rattle.cmb_core_cluster.proofs.merge.read_levels.Goals as goal

pub loop-pin-preserved : goal.loop-pin-preserved
loop-pin-preserved c = rw (c.in_ok-push.ensures.items, c.loop-pin.invariant) (sym (levels_more c.args.pins.now c.loop-pin.pin-index _ c.loop-pin-test.true))

pub returns : goal.returns
returns c = c.loop-pin.invariant ∙ ap levels (take_all c.loop-pin.pin-index c.args.pins.now c.loop-pin-test.false)
