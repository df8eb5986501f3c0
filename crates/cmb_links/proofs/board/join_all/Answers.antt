use Rattle.std.proofs.Common.{◌≡◌, Some, [], ◌∷◌, ◌++◌, map, length, arith, ap, ◌∙◌, length-append}
use Rattle.std.proofs.lemmas.List.Elements.{All-pop}
use Rattle.cmb_links.specs.Seats.{SeatData}
use Rattle.cmb_links.proofs.Closing.{view_of, one_more, joins}
use Rattle.cmb_links.proofs.board.join_all.Goals as goal

pub join_seat-requires : goal.join_seat-requires
join_seat-requires c =
    let kept = c.loop-seat.invariant in
    let u = c.in-Some-pop.seat in
    let all = c.loop-seat.all.me.0 in
    let w = c.seat.inside.inner.me.0 in
    let is : w ≡ u.view ∷ [] = ap (λ m. m.0) c.seat.invariant.0 ∙ ap (λ v. v ∷ []) (ap (λ s. s.view) c.seat.view_is) in
    let parted = one_more c.args.seats.items c.loop-seat.seats.items c.pop-in-loop-seat.new.self.items u all c.in-Some-pop.ensures.items kept.views in
    let boards = All-pop (λ (s : SeatData). s.board ≡ c.args.table.now.shared.table_id) c.loop-seat.seats.items c.pop-in-loop-seat.new.self.items (Some u) c.in-Some-pop.ensures.items kept.boards in (
      kept.same,
      ap (λ s. s.board) c.seat.view_is ∙ boards.1,
      ap (λ m. m.1) c.seat.invariant.0,
      c.requires.words,
      joins _ _ _ _ c.args.seats.items c.pop-in-loop-seat.new.self.items u w all is kept.some parted c.requires.order,
    )

pub loop-seat-preserved : goal.loop-seat-preserved
loop-seat-preserved c =
    let kept = c.loop-seat.invariant in
    let u = c.in-Some-pop.seat in
    let all = c.loop-seat.all.me.0 in
    let w = c.seat.inside.inner.me.0 in
    let rest = c.pop-in-loop-seat.new.self.items in
    let is : w ≡ u.view ∷ [] = ap (λ m. m.0) c.seat.invariant.0 ∙ ap (λ v. v ∷ []) (ap (λ s. s.view) c.seat.view_is) in
    let now = c.join_seat.ensures.2 in
    let parted = one_more c.args.seats.items c.loop-seat.seats.items rest u all c.in-Some-pop.ensures.items kept.views in
    let longer = ap (λ m. length m.0) now in
    let many = kept.some in record {
      none = ap (λ m. m.1) now ∙ kept.none;
      some = omega (arith, length-append w all);
      same = c.join_seat.ensures.0 ∙ kept.same;
      views = ap (λ m. map view_of rest ++ m.0) now ∙ ap (λ z. map view_of rest ++ (z ++ all)) is ∙ parted;
      boards = (All-pop (λ (s : SeatData). s.board ≡ c.args.table.now.shared.table_id) c.loop-seat.seats.items rest (Some u) c.in-Some-pop.ensures.items kept.boards).0;
    }
