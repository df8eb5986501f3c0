use Rattle.cmb_engine.proofs.ArrivalFacts.{flop_level-start, flop_level-takes, flop_level-holds}
use Rattle.cmb_engine.proofs.laws.flops_hold.Goals as goal

pub returns : goal.returns
returns c = record { start = flop_level-start; takes = flop_level-takes; holds = flop_level-holds }
