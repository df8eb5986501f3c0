use Rattle.std.proofs.Common.{◌≡◌, ◌+◌, ◌<◌, ◌≤◌, ◌++◌, [], ◌∷◌, true, false, map, replicate, rules, arith, ap, sym, ◌∙◌}
use Rattle.std.proofs.lemmas.List.FromFn.{map-range_with_len_more}
use Rattle.std.specs.List.{range_with_len}
use Rattle.cmb_design_model.specs.Exact.{nets_of}
use Rattle.cmb_links.specs.Seats.{new_view, new_seat, new_seats, board_run}
use Rattle.cmb_links.specs.Inner.BoardSteps.{cut_left, cut_right, only}
use Rattle.cmb_links.specs.declared.view.BoardRun.{BoardRun}
use Rattle.cmb_links.specs.declared.view.View.{View}
use Rattle.cmb_links.proofs.Seats.{opens, cuts, all_seats}
use Rattle.cmb_links.proofs.board.Board.open.Goals as goal

pub of_words-requires : goal.of_words-requires
of_words-requires c =
    let nets : c.len-nets.result ≡ nets_of c.of.result.value = search rules in
    let words : c.as_slice.result.now ≡ replicate (c.len-nets.result + 2) 0 = search rules in
    let count : c.count-count.result ≡ c.args.workers = c.count-count.ensures.count in
    let some : 1 ≤ c.count-count.result = rw count c.count-count.ensures.some in
    let few : c.count-count.result ≤ 64 = rw count c.count-count.ensures.few in
    rw (words, nets) (opens _ some few)

pub split_seat-next-requires : goal.split_seat-next-requires
split_seat-next-requires c =
    let kept = c.loop-place.invariant in
    let one = ap (λ m. m.0) kept.me in
    let v = only c.loop-place.last.me.0 in
    let wide = kept.words in
    let is : v ≡ new_view (board_run c.args.design.now c.args.clustering.now c.args.workers) c.loop-place._place true = ap only one in
    let room : v.place < v.board_run.workers = rw is (omega arith) in
    (kept.board, omega arith, cuts _ _ _ (one ∙ ap (λ u. u ∷ []) (sym is)) (ap (λ (u : View). u.is_last) is) room)

pub loop-place-preserved : goal.loop-place-preserved
loop-place-preserved c =
    let kept = c.loop-place.invariant in
    let place = c.loop-place._place in
    let t : BoardRun = board_run c.args.design.now c.args.clustering.now c.args.workers in
    let board = c.in_ok-table.table.shared.table_id in
    let cut = c.split_seat-next.ensures in
    let b : c.replace.result.table_id ≡ board = ap (λ s. s.table_id) c.replace.ensures.value ∙ cut.0 ∙ kept.board in
    let v : only c.replace.result.me.0 ≡ new_view t place false = ap (λ s. only s.me.0) c.replace.ensures.value ∙ ap (λ m. only m.0) cut.2 ∙ ap (λ m. cut_left (only m.0)) kept.me in
    record {
      seats = c.push_reserved.ensures.items ∙ (λ i. kept.seats i ++ record { board = b i; view = v i } ∷ []) ∙ sym (map-range_with_len_more (new_seat board t false) 0 place place (omega arith));
      len = search rules;
      room = search rules;
      key = kept.key;
      words = kept.words;
      board = ap (λ s. s.table_id) c.replace.ensures.after ∙ cut.3 ∙ kept.board;
      me = ap (λ s. s.me) c.replace.ensures.after ∙ cut.4 ∙ (λ i. (cut_right (only (kept.me i).0) ∷ [], []));
    }

-- the seats of the workers, and the last one
opened : (c : goal.After-drop-words-2) → c.push_reserved-2.new.self.items ≡ new_seats c.in_ok-table.table.shared.table_id (board_run c.args.design.now c.args.clustering.now c.args.workers)
opened c =
    let kept = c.loop-place.invariant in
    let t : BoardRun = board_run c.args.design.now c.args.clustering.now c.args.workers in
    let board = c.in_ok-table.table.shared.table_id in
    let all : c.loop-place._place ≡ c.args.workers = omega (arith, c.loop-place-test.false, c.count-count.ensures.count) in
    c.push_reserved-2.ensures.items ∙ (λ i. kept.seats i ++ record { board = kept.board i; view = only (kept.me i).0 } ∷ [])
    ∙ ap (λ n. map (new_seat board t false) (range_with_len 0 n) ++ new_seat board t true n ∷ []) all

pub returns-clause-seats : goal.returns-clause-seats
returns-clause-seats c = opened c

pub returns-clause-board : goal.returns-clause-board
returns-clause-board c = rw (opened c) (all_seats c.in_ok-table.table.shared.table_id (board_run c.args.design.now c.args.clustering.now c.args.workers))
