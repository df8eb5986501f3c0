use Rattle.cmb_shares_protocol.proofs.Progress.{goes-on}
use Rattle.cmb_shares_protocol.proofs.Sound.{reachable-sound}
use Rattle.cmb_shares_protocol.proofs.laws.some_process_goes_on.Goals as goal

pub returns : goal.returns
returns c = λ network processes is reachable. goes-on network is processes (reachable-sound network is processes reachable)
