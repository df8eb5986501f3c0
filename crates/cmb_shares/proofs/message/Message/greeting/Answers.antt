use Rattle.cmb_shares.proofs.ToldFacts.{told-nothing}
use Rattle.cmb_shares.proofs.message.Message.greeting.Goals as goal

pub new-requires : goal.new-requires
new-requires g c = told-nothing g.T.ShareRun.run c.args.sender c.args.reader 1 c.clear.new.self.items c.clear.ensures.items
