use Rattle.std.proofs.Common.{◌≡◌, ◌+◌, rules, ap, sym}
use Rattle.cmb_links.specs.Seats.{after_count}
use Rattle.cmb_links.specs.Inner.BoardSteps.{only}
use Rattle.cmb_links.proofs.Allowed.{count_allowed}
use Rattle.cmb_links.proofs.Loads.{Counted, as_seen, at_board, looks_at_end}
use Rattle.cmb_links.proofs.board.Board.finished.Goals as goal

pub load-requires : goal.load-requires
load-requires c =
    let at = at_board _ _ _ c.seat.inside.inner.me _ c.self.inside.nets c.seat.view_is c.requires.board c.self.view_is c.seat.invariant c.self.invariant.0 in
    (at.board, at.room, count_allowed _ _ _ _ _ at.one (ap (λ k. k + 1) at.nets_is))

pub returns : goal.returns
returns c =
    let at = at_board _ _ _ c.seat.inside.inner.me _ c.self.inside.nets c.seat.view_is c.requires.board c.self.view_is c.seat.invariant c.self.invariant.0 in
    let told = c.load.ensures.2 in
    let h = as_seen (λ v w. Counted v w c.load.result) _ _ _ _ c.seat.inside.inner.me at.view told.0 (looks_at_end _ _ _ (ap (λ k. k + 1) at.nets_is) told.1) in
    let now : after_count c.args.seat.now.view c.load.result ≡ only c.load.new.seat.me.0 = sym h.now in
    record { entry = search rules; rising = h.rising; own = h.own; few = h.few; moment = h.moment }
