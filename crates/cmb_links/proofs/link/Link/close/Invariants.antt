use Rattle.std.proofs.Common.{◌≡◌, ◌+◌, ◌-◌, ◌≤◌, ◌++◌, All, length, vec_len, vec_capacity}
use Rattle.crossbeam_queue.specs.Passes.{view, IsPassOf}
use Rattle.cmb_design_model.specs.Exact.{IsExactIn}
use Rattle.cmb_links.specs.Inner.Ends.{closing}
use Rattle.cmb_links.proofs.link.Link.close.Given as goal

abbrev pub invariant-loop-piece : goal.invariant-loop-piece
invariant-loop-piece g l = record {
  pass : IsPassOf l.queue l.both;
  knows : view l.both ≡ closing record { design = l.fn.put.design; nets = l.fn.put.nets } l.queue.cap l.fn.put.sent (l.fn.take.received ++ l.left.items);
  room : vec_capacity l.left ≡ l.queue.cap;
  exact : All (IsExactIn l.fn.put.design) l.left.items;
  few : length l.fn.put.sent ≤ length l.fn.take.received + l.queue.cap;
}

abbrev pub decreases-loop-piece : goal.decreases-loop-piece
decreases-loop-piece g l = length l.fn.put.sent - vec_len l.left
