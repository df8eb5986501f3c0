use Rattle.worked_sim.proofs.stages.named.Goals as goal

pub named_in-requires : goal.named_in-requires
named_in-requires c = c.in_ok-texts.ensures.read.short
