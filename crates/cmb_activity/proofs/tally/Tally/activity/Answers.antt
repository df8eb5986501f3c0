use Rattle.std.proofs.Common.{refl}
use Rattle.cmb_activity.proofs.TallyFacts.{ends}
use Rattle.cmb_activity.proofs.tally.Tally.activity.Goals as goal

pub returns : goal.returns
returns c level is = ends level c.args.horizon c.args.self _ c.requires.small refl refl refl refl is
