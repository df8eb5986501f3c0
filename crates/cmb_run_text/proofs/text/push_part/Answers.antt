use Rattle.std.proofs.Common.{length}
use Rattle.std.proofs.lemmas.Result.{on_ok_weaker}
use Rattle.cmb_run_text.specs.Collector.{collected_level}
use Rattle.cmb_run_text.specs.Between.{end_line, ticks_between}
use Rattle.cmb_run_text.proofs.LineFacts.{joined}
use Rattle.cmb_run_text.proofs.text.push_part.Goals as goal

pub returns : goal.returns
returns c =
    let waves = c.args.waves.now in
    on_ok_weaker _ (joined c.args.out.now.items c.push_ticks.new.out.items c.push_end.new.out.items (ticks_between (length waves) (collected_level waves) c.args.from c.args.upto) (end_line c.args.horizon c.args.from c.args.upto)
    c.in_ok-push_ticks.ensures) c.push_end.ensures
