use Rattle.std.proofs.Common.{refl, map}
use Rattle.cmb_bench.specs.Inner.Views.{statement}
use Rattle.cmb_bench.proofs.Sound.{built_sound}
use Rattle.cmb_bench.proofs.build.build.Goals as goal

pub new-requires : goal.new-requires
new-requires c = built_sound c.args.names.keys (map statement c.args.items.now) (record { names = c.args.names.keys; drivers = c.add_items.new.drivers.items; outputs = c.add_items.new.outputs.keys }) c.requires.named c.requires.lawful c.in-Ok.ensures refl
