use Rattle.cmb_count.proofs.OrderFacts.{ArePlaced}
use Rattle.cmb_count.proofs.components.order_of.Given as goal

abbrev pub invariant-loop-net : goal.invariant-loop-net
invariant-loop-net l = ArePlaced l.numbers l.order.items l.net
