use Rattle.std.proofs.Common.{◌∙◌, ap}
use Rattle.crossbeam_queue.specs.Passes.{view}
use Rattle.cmb_links.proofs.Links.{emptied, empties, learns_left}
use Rattle.cmb_links.proofs.link.Link.close.Goals as goal

pub pop_as-requires-clause-rule : goal.pop_as-requires-clause-rule
pop_as-requires-clause-rule g c =
    let v = view c.loop-piece.both in
    let role = ap (λ u. u.role) c.loop-piece.invariant.knows in
    (empties _ v role, learns_left _ v role)

pub loop-piece-preserved : goal.loop-piece-preserved
loop-piece-preserved g c =
    let known = c.loop-piece.invariant in
    let more = emptied _ _ _ _ _ _ _ _ _ known.knows c.in-Some.ensures.rule c.push_reserved.ensures.items known.exact in
    record {
      pass = (c.in-Some.ensures.queue.0 ∙ known.pass.0, c.in-Some.ensures.queue.2 ∙ known.pass.1);
      knows = more.0;
      room = c.push_reserved.ensures.capacity ∙ known.room;
      exact = more.1;
      few = known.few;
    }
