use Rattle.std.proofs.Common.{length, arith}
use Rattle.cmb_shares.proofs.FlowFacts.{made-taken}
use Rattle.cmb_shares.proofs.stages.Taking.go_on.Goals as goal

pub begin-requires-clause-made : goal.begin-requires-clause-made
begin-requires-clause-made g c =
    let run = g.T.ShareRun.run in
    let is = c.self.invariant in
    made-taken run (length run.driven) c.self.inside.from c.self.inside.upto c.self.inside.gathered c.tell.new.all.items is.lawful is.made (c.in-Ok.ensures.whole (omega (arith, c.if-next-numbers.false, c.numbers.ensures)))
