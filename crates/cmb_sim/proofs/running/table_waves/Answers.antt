use Rattle.std.proofs.Common.{Err, ap}
use Rattle.cmb_sim.proofs.PlainRuns.{AreCollected-whole, IsComplete-whole, IsExactFor-whole, fits_table}
use Rattle.cmb_sim.proofs.running.table_waves.Goals as goal

pub of_waves-requires : goal.of_waves-requires
of_waves-requires c = AreCollected-whole c.args.design.now _ _ c.in-Ok.ensures.waves c.horizon.ensures.value

pub returns-in-Ok-clause-complete : goal.returns-in-Ok-clause-complete
returns-in-Ok-clause-complete c = IsComplete-whole c.args.design.now _ _ _ c.of_waves.ensures c.in-Ok.ensures.waves c.horizon.ensures.value

pub returns-in-Ok-clause-exact : goal.returns-in-Ok-clause-exact
returns-in-Ok-clause-exact c = IsExactFor-whole c.args.design.now _ _ _ c.of_waves.ensures c.in-Ok.ensures.waves c.horizon.ensures.value

pub unreachable-requires : goal.unreachable-requires
unreachable-requires c = fits_table c.args.design.now c.requires (c.in-Err-TableTooLarge.ensures.too_large.0 (ap Err c.in-Err-TableTooLarge.field-0-is))
