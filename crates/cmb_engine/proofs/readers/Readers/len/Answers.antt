use Rattle.std.proofs.Common.{length, ap, arith}
use Rattle.cmb_engine.proofs.JoinFacts.{length-starts}
use Rattle.cmb_engine.proofs.readers.Readers.len.Goals as goal

pub returns : goal.returns
returns c =
    omega (arith, c.self.inside.starts.ok, c.len.ensures, ap length c.self.view_is, length-starts c.self.inside.nets.items c.self.inside.starts.items (length c.self.inside.nets.items) c.self.invariant)
