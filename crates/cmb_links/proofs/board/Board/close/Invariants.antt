use Rattle.std.proofs.Common.{◌≡◌, vec_len, vec_capacity}
use Rattle.std.specs.Mem.Slots.{slots_items}
use Rattle.cmb_links.proofs.Closing.{promises_of}
use Rattle.cmb_links.proofs.board.Board.close.Given as goal

abbrev pub invariant-loop-net : goal.invariant-loop-net
invariant-loop-net l = record {
  items : l.promises.items ≡ promises_of (slots_items l.closed.words) l.net;
  len : vec_len l.promises ≡ l.net;
  room : vec_capacity l.promises ≡ l.nets;
}
