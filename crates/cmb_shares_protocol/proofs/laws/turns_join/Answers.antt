use Rattle.cmb_shares_protocol.proofs.JoinFacts.{turns-join}
use Rattle.cmb_shares_protocol.proofs.laws.turns_join.Goals as goal

pub returns : goal.returns
returns c = turns-join
