use Rattle.cmb_shares_protocol.proofs.Grid.{ahead-later}
use Rattle.cmb_shares_protocol.proofs.TurnFacts.{turn-leads, turn-at}
use Rattle.cmb_shares_protocol.proofs.laws.turns_are_due.Goals as goal

pub returns : goal.returns
returns c = λ network number tick process lawful there early is. (
  turn-leads network number tick process is there early (ahead-later network lawful tick early) (lawful.reader number) (λ sender. lawful.sender sender number),
  turn-at network number tick process is,
)
