use Rattle.cmb_bench.specs.Inner.Views.{mention}
use Rattle.cmb_bench.proofs.Names.{number_found, number_missing}
use Rattle.cmb_bench.proofs.build.number_of.Goals as goal

pub returns-in-Some : goal.returns-in-Some
returns-in-Some c = number_found c.args.names.now.keys (mention c.args.used) c.in-Some.number c.in-Some.ensures.index

pub returns-in-None : goal.returns-in-None
returns-in-None c = number_missing c.args.names.now.keys (mention c.args.used) c.in-None.ensures.index
