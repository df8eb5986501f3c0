use Rattle.std.proofs.Common.{◌≡◌, ◌+◌, true, false, [], ◌∷◌, map, vec_len, vec_capacity}
use Rattle.std.specs.List.{range_with_len}
use Rattle.cmb_design_model.specs.Exact.{nets_of}
use Rattle.cmb_links.specs.Seats.{new_view, new_seat, board_run, board_run_of}
use Rattle.cmb_links.proofs.board.Board.open.Given as goal

abbrev pub invariant-loop-place : goal.invariant-loop-place
invariant-loop-place l = record {
  seats : l.seats.items ≡ map (new_seat l.table.shared.table_id (board_run l.design l.clustering l.fn.workers) false) (range_with_len 0 l._place);
  len : vec_len l.seats ≡ l._place;
  room : vec_capacity l.seats ≡ l.fn.workers + 1;
  key : board_run_of l.table.shared.key ≡ board_run l.design l.clustering l.fn.workers;
  words : l.table.shared.table_id.words ≡ (nets_of l.design) + 2;
  board : l.last.table_id ≡ l.table.shared.table_id;
  me : l.last.me ≡ (new_view (board_run l.design l.clustering l.fn.workers) l._place true ∷ [], []);
}
