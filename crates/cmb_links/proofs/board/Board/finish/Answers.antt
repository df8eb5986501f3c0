use Rattle.std.proofs.Common.{◌≡◌, ◌+◌, ◌<◌, false, ap}
use Rattle.cmb_links.specs.Inner.BoardSteps.{only}
use Rattle.cmb_links.proofs.Allowed.{finish_allowed}
use Rattle.cmb_links.proofs.Loads.{at_board}
use Rattle.cmb_links.proofs.board.Board.finish.Goals as goal

pub fetch_add-requires : goal.fetch_add-requires
fetch_add-requires c =
    let at = at_board _ _ _ c.seat.inside.inner.me _ c.self.inside.nets c.seat.view_is c.requires.board c.self.view_is c.seat.invariant c.self.invariant.0 in
    let works : (only c.seat.inside.inner.me.0).place < (only c.seat.inside.inner.me.0).board_run.workers = rw at.view c.requires.worker in
    let once : (only c.seat.inside.inner.me.0).endings.finished ≡ false = rw at.view c.requires.once in
    (at.board, at.room, finish_allowed _ _ _ _ _ at.one (ap (λ k. k + 1) at.nets_is) works once)
