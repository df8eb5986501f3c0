use Rattle.cmb_engine.proofs.BitFacts.{read-inserts}
use Rattle.cmb_engine.proofs.bits.Bits.insert.Goals as goal

pub returns : goal.returns
returns c = read-inserts c.self.inside.words.items c.args.self.now c.self.view_is c.args.n c.index_mut.result.now c.index_mut.ensures.value c.requires
