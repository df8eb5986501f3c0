use Rattle.cmb_words.specs.Changes.{RisesWithin}
use Rattle.worked_engine.proofs.pieces.all_turned.Given as goal

abbrev pub invariant-loop-net : goal.invariant-loop-net
invariant-loop-net l = RisesWithin 0 l.net l.changed.items
