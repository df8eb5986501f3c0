use Rattle.std.proofs.Common.{◌≡◌, length, take}
use Rattle.cmb_cone.specs.Inner.Found.{IsFound, Gains}
use Rattle.cmb_cone.proofs.closed.Found.add_all.Given as goal

abbrev pub invariant-loop-net : goal.invariant-loop-net
invariant-loop-net l = record {
  found : IsFound l.self;
  marks : length l.self.marks.items ≡ length l.initial.self.marks.items;
  gains : Gains l.initial.self.list.items (take l.net-index l.nets) l.self.list.items;
}
