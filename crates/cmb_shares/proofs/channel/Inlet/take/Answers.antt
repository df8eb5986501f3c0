use Rattle.rtrb.specs.Ring.{received}
use Rattle.cmb_shares.proofs.ChannelFacts.{latest-sent}
use Rattle.cmb_shares.proofs.channel.Inlet.take.Goals as goal

pub returns-clause-last : goal.returns-clause-last
returns-clause-last g c = latest-sent (λ n. n.envelope) (received c.self.inside.ring) (received c.pop.new.self) c.in-Ok.message c.in-Ok.ensures.ok.0
