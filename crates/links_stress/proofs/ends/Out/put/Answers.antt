use Rattle.std.proofs.Common.{◌≡◌, ap, arith}
use Rattle.cmb_links.specs.Links.{PutData}
use Rattle.links_stress.proofs.Carried.{reaches}
use Rattle.links_stress.proofs.ends.Out.put.Goals as goal

pub invariant_of-self-2-clause-reached : goal.invariant_of-self-2-clause-reached
invariant_of-self-2-clause-reached g c =
    let same : c.args.piece.net ≡ c.args.self.now.net = omega (arith, c.net.ensures, c.if-net-self.false) in
    let up = reaches c.args.self.now.net c.args.self.now.pass.sent c.put.new.pass.sent c.args.piece (ap (λ (p : PutData). p.sent) c.in_ok-put.ensures.ok) same in
    omega (arith, c.to-to.ensures, up)
