use Rattle.std.proofs.Common.{◌≡◌, map, drop, []}
use Rattle.cmb_bench.specs.Inner.Views.{statement}
use Rattle.cmb_bench.specs.Inner.Building.{built, with_drivers}
use Rattle.cmb_bench.proofs.build.add_items.Given as goal

abbrev pub invariant-loop-item : goal.invariant-loop-item
invariant-loop-item l = with_drivers l.drivers.items (built l.names.keys l.outputs.keys (map statement (drop l.item-index l.items))) ≡ built l.names.keys [] (map statement l.items)
