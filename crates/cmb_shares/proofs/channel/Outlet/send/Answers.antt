use Rattle.rtrb.specs.Ring.{sent}
use Rattle.cmb_shares.proofs.ChannelFacts.{latest-sent}
use Rattle.cmb_shares.proofs.channel.Outlet.send.Goals as goal

pub returns-clause-sent : goal.returns-clause-sent
returns-clause-sent g c = λ h. latest-sent (λ n. n.envelope) (sent c.self.inside.ring) (sent c.push.new.self) c.args.message c.in-Ok.ensures.ok.0
