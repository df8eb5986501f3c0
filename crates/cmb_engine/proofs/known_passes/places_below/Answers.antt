use Rattle.std.proofs.Common.{arith}
use Rattle.cmb_engine.proofs.PlaceFacts.{cut-set, cut-unset}
use Rattle.cmb_engine.proofs.known_passes.places_below.Goals as goal

pub returns-then-room-lt64-clause-below : goal.returns-then-room-lt64-clause-below
returns-then-room-lt64-clause-below c = λ place small set.
    let h = cut-set c.args.batch.places c.saturating_sub-room.result place c.if-room-lt64.true small set in
    (h.0, omega (arith, h.1, c.saturating_sub-room.ensures))

pub returns-then-room-lt64-clause-all : goal.returns-then-room-lt64-clause-all
returns-then-room-lt64-clause-all c = λ place small unset below.
    cut-unset c.args.batch.places c.saturating_sub-room.result place c.if-room-lt64.true (omega (arith, below, c.saturating_sub-room.ensures)) unset
