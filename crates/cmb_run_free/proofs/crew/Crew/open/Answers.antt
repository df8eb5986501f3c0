use Rattle.std.proofs.Common.{◌≡◌, ◌∙◌, ℕ, ◌+◌, ◌<◌, List, ap, arith, drop, get_or, length, length-drop, subst, sym}
use Rattle.std.specs.Arc.{arc_value}
use Rattle.std.specs.Prelude.{All}
use Rattle.std.proofs.lemmas.List.{get_or-drop}
use Rattle.std.proofs.lemmas.List.Elements.{All-get_or}
use Rattle.cmb_links.specs.Seats.{IsSeatOf, board_run}
use Rattle.cmb_run_free.proofs.crew.Crew.open.Goals as goal

-- one is left
one_left : {X : Type 0} (all left : List X) (taken : ℕ) → length all ≡ taken + 1 → left ≡ drop taken all → 0 < length left
one_left all left taken count is = omega (arith, count, ap length is, length-drop taken all)

-- that has what all have
left_has : {X : Type 0} (Has : X → Type 0) (all left : List X) (taken : ℕ) (one : X) → All Has all → length all ≡ taken + 1 → left ≡ drop taken all → one ≡ get_or left 0 one → Has one
left_has Has all left taken one each count is at =
    let here : one ≡ get_or all (taken + 0) one = at ∙ ap (λ l. get_or l 0 one) is ∙ get_or-drop taken all 0 one in
    subst Has (sym here) (All-get_or Has all (taken + 0) one (omega (arith, count)) each)

pub add_workers-requires : goal.add_workers-requires
add_workers-requires g c =
    let opened = c.in_ok-board.ensures in
    record { run = c.requires.run; each = c.requires.each; seats = opened.seats; count = opened.count }

pub connect-requires : goal.connect-requires
connect-requires g c = record { design = c.requires.run.design_is; clustering = c.requires.run.clustering_is }

pub remove-seat-requires : goal.remove-seat-requires
remove-seat-requires g c =
    let opened = c.in_ok-board.ensures in
    let all = c.in_ok-board.seats.items in
    let count : length all ≡ c.args.workers + 1 = omega (arith, opened.count) in
    omega (arith, one_left all c.add_workers.new.seats.items c.args.workers count (rw (← opened.seats) at c.in_ok-add_workers.ensures))

pub invariant_of-result : goal.invariant_of-result
invariant_of-result g c =
    let opened = c.in_ok-board.ensures in
    let all = c.in_ok-board.seats.items in
    let count : length all ≡ c.args.workers + 1 = omega (arith, opened.count) in
    record {
      same = (left_has (IsSeatOf (arc_value c.in_ok-board.board) (board_run c.args.design.now c.args.clustering.now c.args.workers)) all c.add_workers.new.seats.items c.args.workers
          c.remove-seat.result opened.board count (rw (← opened.seats) at c.in_ok-add_workers.ensures) c.remove-seat.ensures.value).0;
    }
