-- The three seats of a board, whatever they did there.
use Rattle.std.proofs.Common.{◌≡◌, false, ◌+◌, [], ◌∷◌, ap, arith, refl}
use Rattle.std.specs.List.{All}
use Rattle.std.proofs.lemmas.List.Elements.{All-cons, All-nil}
use Rattle.cmb_links.specs.Seats.{SeatData, AreAllSeats, new_seat}
use Rattle.cmb_links.specs.declared.view.BoardRun.{BoardRun}
use Rattle.links_stress.specs.Seats.{at_first}

three : (P : SeatData → Type 0) (a b c : SeatData) → P a → P b → P c → All P (a ∷ b ∷ c ∷ [])
three P a b c p q r = All-cons P a (b ∷ c ∷ []) p (All-cons P b (c ∷ []) q (All-cons P c [] r (All-nil P)))

pub all_seats : (board : _) (t : BoardRun) (a b c : SeatData) → t.workers ≡ 2 → at_first a ≡ new_seat board t false 0 → at_first b ≡ new_seat board t false 1 → at_first c ≡ new_seat board t false 2 → AreAllSeats board (a ∷ b ∷ c ∷ [])
all_seats board t a b c two first second last = record {
  some = omega arith;
  same = three (λ s. s.board ≡ board) a b c (ap (λ s. s.board) first) (ap (λ s. s.board) second) (ap (λ s. s.board) last);
  order = rw (ap (λ s. s.view.place) first, ap (λ s. s.view.place) second, ap (λ s. s.view.place) last) refl;
  all = three (λ s. 3 ≡ s.view.board_run.workers + 1) a b c
      (rw (ap (λ s. s.view.board_run.workers) first, two) refl)
      (rw (ap (λ s. s.view.board_run.workers) second, two) refl)
      (rw (ap (λ s. s.view.board_run.workers) last, two) refl);
}
