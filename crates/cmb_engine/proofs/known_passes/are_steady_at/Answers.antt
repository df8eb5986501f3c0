use Rattle.std.proofs.lemmas.Bool.{eqb-false, eqb-true}
use Rattle.cmb_engine.proofs.KnownFacts.{steady-turns, turns-steady}
use Rattle.cmb_engine.proofs.known_passes.are_steady_at.Goals as goal

pub returns-clause-steady : goal.returns-clause-steady
returns-clause-steady c = λ none first some set. turns-steady c.args.ones c.args.places first (eqb-true _ _ none) some set

pub returns-clause-moves : goal.returns-clause-moves
returns-clause-moves c = λ other first some small unset steady. eqb-false _ _ other (steady-turns c.args.ones c.args.places first some c.ranges.places.fits unset steady)
