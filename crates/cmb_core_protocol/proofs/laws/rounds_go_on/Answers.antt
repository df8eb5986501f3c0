use Rattle.cmb_core_protocol.proofs.Machine.{reachable-sound}
use Rattle.cmb_core_protocol.proofs.Progress.{rounds-at_least}
use Rattle.cmb_core_protocol.proofs.laws.rounds_go_on.Goals as goal

pub returns : goal.returns
returns c = λ design clustering clocks many netlist assigned reachable. rounds-at_least design netlist clustering assigned clocks (reachable-sound design clustering clocks reachable) many
