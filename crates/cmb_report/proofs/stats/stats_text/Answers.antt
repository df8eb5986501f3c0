use Rattle.std.proofs.Common.{append_assoc, ap, ◌∙◌, ◌++◌}
use Rattle.cmb_report.specs.Stats.{number_rows, peak_row, processor_row, time_rows}
use Rattle.cmb_report.proofs.stats.stats_text.Goals as goal

pub returns : goal.returns
returns c =
    let all = rw (c.in_ok-push_processor.ensures, c.in_ok-push_times.ensures, c.in_ok-push_numbers.ensures) at c.in_ok-push_peak.ensures in
    let grouped = rw (append_assoc, append_assoc) at all in
    let rest = time_rows c.args.stats.now ++ (processor_row c.args.stats.now.processor ++ peak_row c.args.stats.now.peak) in
    grouped ∙ ap (λ t. (t ++ number_rows c.args.stats.now) ++ rest) c.new-text.ensures.bytes
