use Rattle.cmb_core_cluster.proofs.OnwardFacts.{sweep_goes_on}
use Rattle.cmb_core_cluster.proofs.laws.sweeps_go_on.Goals as goal

pub returns : goal.returns
returns c = λ design clustering cluster s netlist of. sweep_goes_on design netlist clustering cluster s of
