use Rattle.std.proofs.Common.{arith}
use Rattle.cmb_shares.proofs.PlaceFacts.{written-all}
use Rattle.cmb_shares.proofs.ProcessFacts.{text-turns}
use Rattle.cmb_shares.proofs.desk.take_parts.Goals as goal

pub returns-clause-turns : goal.returns-clause-turns
returns-clause-turns g c =
    let was = c.loop-place.invariant in
    let sources = c.loop-place.sources in
    text-turns g.T.ShareRun.run c.args.sources.now sources c.args.from c.args.upto c.requires.turn.early was.len c.requires.sources
    (written-all _ _ sources c.loop-place.place (omega (arith, c.loop-place-test.false, was.len)) was.at) c.requires.turn.end
