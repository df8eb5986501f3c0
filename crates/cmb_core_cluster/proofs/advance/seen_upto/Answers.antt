use Rattle.std.proofs.Common.{◌-◌, arith}
use Rattle.cmb_core_cluster.proofs.Skips.{sample_upto_le}
use Rattle.cmb_core_cluster.proofs.advance.seen_upto.Goals as goal

pub returns-else-ticks-eq0 : goal.returns-else-ticks-eq0
returns-else-ticks-eq0 c = λ t h k.
    rw (c.saturating_sub-ticks.ensures, c.saturating_sub.ensures)
    (sample_upto_le c.args.first c.args.period (c.args.clock - c.args.delay) (t - c.args.delay) c.requires (omega arith))
