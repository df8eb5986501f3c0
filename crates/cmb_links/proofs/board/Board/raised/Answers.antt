use Rattle.std.proofs.Common.{◌≡◌, ◌==◌, rules, arith, sym}
use Rattle.cmb_links.specs.Seats.{after_check}
use Rattle.cmb_links.specs.Inner.BoardSteps.{only}
use Rattle.cmb_links.proofs.Allowed.{check_allowed}
use Rattle.cmb_links.proofs.Loads.{Checked, as_seen, at_board, looks_at_stop}
use Rattle.cmb_links.proofs.board.Board.raised.Goals as goal

pub load-requires : goal.load-requires
load-requires c =
    let at = at_board _ _ _ c.seat.inside.inner.me _ c.self.inside.nets c.seat.view_is c.requires.board c.self.view_is c.seat.invariant c.self.invariant.0 in
    (at.board, omega (arith, at.room), check_allowed _ _ _ _ _ at.one at.nets_is)

pub returns : goal.returns
returns c =
    let at = at_board _ _ _ c.seat.inside.inner.me _ c.self.inside.nets c.seat.view_is c.requires.board c.self.view_is c.seat.invariant c.self.invariant.0 in
    let told = c.load.ensures.2 in
    let h = as_seen (λ v w. Checked v w (c.load.result == 1)) _ _ _ _ c.seat.inside.inner.me at.view told.0 (looks_at_stop _ _ _ at.nets_is told.1) in
    let now : after_check c.args.seat.now.view (c.load.result == 1) ≡ only c.load.new.seat.me.0 = sym h.now in
    record { entry = search rules; own = h.own; stays = h.stays; moment = h.moment }
