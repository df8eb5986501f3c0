use Rattle.cmb_shares_protocol.proofs.Lengths.{run-length}
use Rattle.cmb_shares_protocol.proofs.laws.runs_end.Goals as goal

pub returns : goal.returns
returns c = λ network processes events is leads. run-length network is processes events leads
