use Rattle.cmb_shares_protocol.proofs.JoinFacts.{histories-join}
use Rattle.cmb_shares_protocol.proofs.laws.histories_join.Goals as goal

pub returns : goal.returns
returns c = λ network histories ends is. histories-join network is histories ends
