use Rattle.cmb_core_protocol.proofs.Progress.{quiet-complete}
use Rattle.cmb_core_protocol.proofs.laws.quiet_is_complete.Goals as goal

pub returns : goal.returns
returns c = λ design clustering clocks netlist assigned. quiet-complete design netlist clustering assigned clocks
