use Rattle.cmb_run_free.proofs.ChannelFacts.{all_fed-later}
use Rattle.cmb_run_free.proofs.worker.Worker.look_all.Goals as goal

pub invariant_of-self : goal.invariant_of-self
invariant_of-self g c = all_fed-later c.self.inside.cluster c.look_each.new.cluster c.look_each.ensures.later c.self.inside.ins.items c.self.invariant
