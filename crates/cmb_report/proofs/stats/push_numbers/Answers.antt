use Rattle.std.proofs.Common.{append_assoc}
use Rattle.cmb_report.proofs.stats.push_numbers.Goals as goal

pub returns : goal.returns
returns c =
    let all = rw (c.in_ok-push_row-3.ensures, c.in_ok-push_row-2.ensures, c.in_ok-push_row.ensures) at c.push_row-4.ensures in
    rw (append_assoc, append_assoc, append_assoc) at all
