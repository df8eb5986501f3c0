use Rattle.cmb_dump.proofs.PickFacts.{ArePlacesBelow}
use Rattle.cmb_dump.proofs.pick.places_of.Given as goal

abbrev pub invariant-loop-place : goal.invariant-loop-place
invariant-loop-place l = ArePlacesBelow l.count l.nets l.place l.places.items
