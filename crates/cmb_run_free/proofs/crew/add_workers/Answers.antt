use Rattle.std.proofs.Common.{◌≡◌, ◌<◌, ◌-◌, ◌∙◌, ap, arith, drop, drop-drop, false, length, length-drop, sym}
use Rattle.std.specs.Arc.{arc_value}
use Rattle.cmb_links.specs.Seats.{new_seat, new_seats, board_run}
use Rattle.cmb_links.proofs.Seats.{next_seat}
use Rattle.cmb_run_free.proofs.crew.add_workers.Goals as goal

pub new-worker_seat-requires-clause-seat : goal.new-worker_seat-requires-clause-seat
new-worker_seat-requires-clause-seat g c =
    let t = board_run c.args.design.now c.args.clustering.now c.args.workers in
    let within : c.loop-number.number < c.args.workers = omega (arith, c.loop-number-test.true, c.count-number-end.ensures.count) in
    let is : c.remove-seat.result ≡ new_seat (arc_value c.args.board.now) t false c.loop-number.number =
    c.remove-seat.ensures.value ∙ next_seat (arc_value c.args.board.now) t c.loop-number.number c.remove-seat.result c.loop-number.seats.items c.loop-number.invariant within in
    rw c.in_ok-shared.ensures (rw (sym c.requires.run.design_is) (rw (sym c.requires.run.clustering_is) is))

pub remove-seat-requires : goal.remove-seat-requires
remove-seat-requires g c =
    let all = c.args.seats.now.items in
    let left : c.loop-number.seats.items ≡ drop c.loop-number.number all = c.loop-number.invariant ∙ ap (drop c.loop-number.number) (sym c.requires.seats) in
    let count : length c.loop-number.seats.items ≡ length all - c.loop-number.number = ap length left ∙ length-drop c.loop-number.number all in
    omega (arith, c.loop-number-test.true, c.count-number-end.ensures.count, c.requires.count)

pub loop-number-preserved : goal.loop-number-preserved
loop-number-preserved g c =
    let t = board_run c.args.design.now c.args.clustering.now c.args.workers in
    c.remove-seat.ensures.items ∙ ap (λ l. drop 1 l) c.loop-number.invariant ∙ drop-drop 1 c.loop-number.number (new_seats (arc_value c.args.board.now) t)
