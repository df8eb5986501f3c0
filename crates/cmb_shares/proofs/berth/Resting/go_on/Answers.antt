use Rattle.std.proofs.Common.{subst, sym}
use Rattle.cmb_shares.specs.Inner.Stations.{Covers, Standing}
use Rattle.cmb_shares.proofs.berth.Resting.go_on.Goals as goal

pub tell-requires-clause-covers : goal.tell-requires-clause-covers
tell-requires-clause-covers g c = subst (λ (s : Standing). Covers g.T.ShareRun.run s.number s.senders) (sym c.look.ensures) c.self.invariant

pub invariant_of-result : goal.invariant_of-result
invariant_of-result g c = subst (λ (s : Standing). Covers g.T.ShareRun.run s.number s.senders) (sym c.look.ensures) c.self.invariant
