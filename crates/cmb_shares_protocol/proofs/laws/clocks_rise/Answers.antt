use Rattle.cmb_shares_protocol.proofs.Sound.{after-up}
use Rattle.cmb_shares_protocol.proofs.laws.clocks_rise.Goals as goal

pub returns : goal.returns
returns c = λ network processes event is number. after-up network is processes event number
