use Rattle.std.proofs.Common.{◌≡◌, take}
use Rattle.std.specs.List.{AllZip}
use Rattle.cmb_engine.specs.Inner.Plans.{pins_from, Grows, StandsFor}
use Rattle.cmb_engine.proofs.plan.collect_pins.Given as goal

abbrev pub invariant-loop-i : goal.invariant-loop-i
invariant-loop-i l = record {
  nets : l.lines.nets ≡ l.initial.lines.nets;
  grows : Grows l.initial.lines.list.items l.lines.list.items l.initial.lines.most l.lines.most;
  pins : AllZip (StandsFor l.lines.nets l.lines.list.items l.lines.most) (pins_from l.design l.net 1 (take l.i l.operands)) l.pins.items;
}
