use Rattle.std.proofs.Common.{◌≡◌, ◌+◌, false, true, List, [], ◌∷◌, ◌++◌, map, ap, arith, refl, sym}
use Rattle.std.specs.List.{All, range_with_len}
use Rattle.std.proofs.lemmas.List.Elements.{All-cons, All-nil}
use Rattle.cmb_links.specs.Seats.{SeatData, AreAllSeats, new_seat, new_seats, board_run}
use Rattle.cmb_links.specs.declared.view.BoardRun.{BoardRun}
use Rattle.worked_doors.proofs.links.ends_unused.Goals as goal

three : (P : SeatData → Type 0) (a b c : SeatData) → P a → P b → P c → All P (a ∷ b ∷ c ∷ [])
three P a b c p q r = All-cons P a (b ∷ c ∷ []) p (All-cons P b (c ∷ []) q (All-cons P c [] r (All-nil P)))

-- the seats of a board that was opened for two workers
all_seats : (board : _) (t : BoardRun) (seats : List SeatData) → t.workers ≡ 2 → seats ≡ new_seats board t → AreAllSeats board seats
all_seats board t seats two is =
    let last = new_seat board t true t.workers in
    let each : 3 ≡ t.workers + 1 = sym (ap (λ n. n + 1) two) in
    let listed : seats ≡ new_seat board t false 0 ∷ new_seat board t false 1 ∷ last ∷ [] =
    rw is (ap (λ n. map (new_seat board t false) (range_with_len 0 n) ++ last ∷ []) two) in
    rw listed (record {
      some = omega arith;
      same = three (λ s. s.board ≡ board) (new_seat board t false 0) (new_seat board t false 1) last refl refl refl;
      order = ap (λ n. 0 ∷ 1 ∷ n ∷ []) two;
      all = three (λ s. 3 ≡ s.view.board_run.workers + 1) (new_seat board t false 0) (new_seat board t false 1) last each each each;
    })

pub close-requires : goal.close-requires
close-requires c =
    let t = board_run c.args.design.now c.args.clustering.now c.args.workers in
    record { seats = all_seats c.in_ok-board.board t c.in_ok-board.seats.items c.requires.two c.in_ok-board.ensures.seats }
