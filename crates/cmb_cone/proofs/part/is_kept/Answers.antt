use Rattle.cmb_cone.proofs.PartFacts.{among_here, among_not}
use Rattle.cmb_cone.proofs.part.is_kept.Goals as goal

pub returns-then-place-kept : goal.returns-then-place-kept
returns-then-place-kept c = among_here c.args.kept.now.nets.now c.args.kept.now.places.now c.args.net c.args.kept.now.placed c.if-place-kept.true

pub returns-else-place-kept : goal.returns-else-place-kept
returns-else-place-kept c = among_not c.args.kept.now.nets.now c.args.kept.now.places.now c.args.net c.args.kept.now.placed c.if-place-kept.false
