use Rattle.cmb_sim.proofs.AllNets.{IsRun-chosen}
use Rattle.cmb_sim.proofs.laws.all_nets_are_the_whole.Goals as goal

pub returns : goal.returns
returns c = IsRun-chosen
