use Rattle.std.proofs.Common.{◌≡◌, drop}
use Rattle.std.specs.Arc.{arc_value}
use Rattle.cmb_links.specs.Seats.{board_run, new_seats}
use Rattle.cmb_run_free.proofs.crew.add_workers.Given as goal

abbrev pub invariant-loop-number : goal.invariant-loop-number
invariant-loop-number g l = l.seats.items ≡ drop l.number (new_seats (arc_value l.board) (board_run l.design l.clustering l.fn.workers))
