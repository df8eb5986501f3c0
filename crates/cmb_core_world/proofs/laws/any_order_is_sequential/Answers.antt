use Rattle.cmb_core_world.proofs.Worlds.{world-follows}
use Rattle.cmb_core_world.proofs.laws.any_order_is_sequential.Goals as goal

pub returns : goal.returns
returns c = λ design clustering events netlist assigned. world-follows design netlist clustering assigned events
