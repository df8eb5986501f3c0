use Rattle.cmb_core_world.proofs.RoundFacts.{rounds_known}
use Rattle.cmb_core_world.proofs.world.rounds_of_worlds_go_on.Goals as goal

pub returns : goal.returns
returns c = λ design clustering world past many netlist lawful reached. rounds_known design netlist clustering lawful world past reached many
