use Rattle.cmb_shares_protocol.proofs.Sound.{reachable-sound}
use Rattle.cmb_shares.proofs.TraceFacts.{made-exact, told-exact}
use Rattle.cmb_shares.proofs.laws.shares_are_exact.Goals as goal

pub returns : goal.returns
returns c = record {
  made = λ network sharing processes level lawful serves reachable made. made-exact network lawful sharing serves processes (reachable-sound network lawful processes reachable) level made;
  told = λ network sharing processes level lawful serves reachable made. told-exact network lawful sharing serves processes (reachable-sound network lawful processes reachable) level made;
}
