use Rattle.std.proofs.Common.{◌≡◌, ◌≤◌, rules, arith}
use Rattle.cmb_design_model.specs.Exact.{IsRightIn}
use Rattle.cmb_links.specs.Promises.{newest}
use Rattle.cmb_links.specs.Seats.{driver}
use Rattle.cmb_links.specs.Inner.BoardSteps.{only}
use Rattle.cmb_links.proofs.Allowed.{publish_allowed}
use Rattle.cmb_links.proofs.Loads.{at_board}
use Rattle.cmb_links.proofs.board.Board.publish.Goals as goal

pub store-requires : goal.store-requires
store-requires c =
    let at = at_board _ _ _ c.seat.inside.inner.me _ c.self.inside.nets c.seat.view_is c.requires.board c.self.view_is c.seat.invariant c.self.invariant.0 in
    let v = only c.seat.inside.inner.me.0 in
    let p = c.args.promise in
    let drives : driver v.board_run p.net ≡ v.place = rw at.view c.requires.drives in
    let right : IsRightIn v.board_run.design p = rw at.view c.requires.right in
    let rises : (newest p.net v.promised.published).upto ≤ p.upto = rw at.view c.requires.rises in (
      at.board,
      omega (arith, at.room, at.nets_is, right.net),
      rw c.word-word.ensures.word (publish_allowed _ _ _ _ p at.one drives right (search rules) rises),
    )
