use Rattle.std.proofs.Common.{subst, sym}
use Rattle.cmb_shares.specs.Inner.Stations.{Covers, Standing}
use Rattle.cmb_shares.proofs.berth.Resting.look.Goals as goal

pub invariant_of-self : goal.invariant_of-self
invariant_of-self g c = subst (λ (s : Standing). Covers g.T.ShareRun.run s.number s.senders) (sym c.look.ensures) c.self.invariant
