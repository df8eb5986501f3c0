use Rattle.std.proofs.Common.{◌≡◌, ◌<◌, ◌++◌, [], map, length, vec_len}
use Rattle.std.specs.List.{All}
use Rattle.cmb_links.specs.Seats.{SeatData}
use Rattle.cmb_links.proofs.board.join_all.Given as goal

abbrev pub invariant-loop-seat : goal.invariant-loop-seat
invariant-loop-seat l = record {
  none : l.all.me.1 ≡ [];
  some : 0 < length l.all.me.0;
  same : l.all.table_id ≡ l.table.shared.table_id;
  views : map (λ (s : SeatData). s.view) l.seats.items ++ l.all.me.0 ≡ map (λ (s : SeatData). s.view) l.fn.seats.items;
  boards : All (λ (s : SeatData). s.board ≡ l.table.shared.table_id) l.seats.items;
}

abbrev pub decreases-loop-seat : goal.decreases-loop-seat
decreases-loop-seat l = vec_len l.seats
