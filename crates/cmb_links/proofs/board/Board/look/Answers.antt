use Rattle.std.proofs.Common.{◌≡◌, ◌<◌, rules, arith, sym, subst}
use Rattle.cmb_design_model.specs.Exact.{nets_of}
use Rattle.cmb_links.specs.Seats.{after_look}
use Rattle.cmb_links.specs.Inner.BoardSteps.{only}
use Rattle.cmb_links.proofs.Allowed.{look_allowed}
use Rattle.cmb_links.proofs.Loads.{Looked, as_seen, at_board, looks}
use Rattle.cmb_links.proofs.board.Board.look.Goals as goal

pub load-found-requires : goal.load-found-requires
load-found-requires c =
    let at = at_board _ _ _ c.seat.inside.inner.me _ c.self.inside.nets c.seat.view_is c.requires.board c.self.view_is c.seat.invariant c.self.invariant.0 in
    let net : c.args.net < nets_of (only c.seat.inside.inner.me.0).board_run.design = rw at.view c.requires.net in
    (at.board, omega (arith, at.room, at.nets_is), look_allowed _ _ _ _ _ at.one net)

pub returns : goal.returns
returns c =
    let at = at_board _ _ _ c.seat.inside.inner.me _ c.self.inside.nets c.seat.view_is c.requires.board c.self.view_is c.seat.invariant c.self.invariant.0 in
    let net : c.args.net < nets_of (only c.seat.inside.inner.me.0).board_run.design = rw at.view c.requires.net in
    let told = c.load-found.ensures.2 in
    let h = as_seen (λ v w. Looked v w c.args.net c.of_word.result) _ _ _ _ c.seat.inside.inner.me at.view told.0
    (subst (Looked _ _ c.args.net) (sym c.of_word.ensures.parts) (looks _ c.args.net c.load-found.result net told.1)) in
    let now : after_look c.args.seat.now.view c.of_word.result ≡ only c.load-found.new.seat.me.0 = sym h.now in
    record { entry = search rules; net = search rules; right = h.right; rising = h.rising; own = h.own; moment = h.moment }
