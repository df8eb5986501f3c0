use Rattle.cmb_words.proofs.MaskFacts.{places-each, places-all}
use Rattle.cmb_words.proofs.laws.places_are_those_set.Goals as goal

pub returns-clause-each : goal.returns-clause-each
returns-clause-each c mask = places-each mask

pub returns-clause-all : goal.returns-clause-all
returns-clause-all c mask place small one = places-all mask place small one
