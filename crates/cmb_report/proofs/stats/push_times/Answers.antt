use Rattle.std.proofs.Common.{append_assoc}
use Rattle.cmb_report.proofs.stats.push_times.Goals as goal

pub returns : goal.returns
returns c =
    let simulating = rw (c.saturating_add-others.ensures) at c.saturating_sub-simulating.ensures in
    let all = rw (c.in_ok-push_seconds-2.ensures, c.in_ok-push_seconds.ensures, simulating) at c.push_seconds-3.ensures in
    rw (append_assoc, append_assoc) at all
