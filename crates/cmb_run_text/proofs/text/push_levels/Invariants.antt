use Rattle.std.proofs.Common.{◌≡◌, ◌++◌, ◌-◌, length}
use Rattle.cmb_run_text.specs.Collector.{collected_level}
use Rattle.cmb_run_text.specs.Vcd.{level_lines}
use Rattle.cmb_run_text.proofs.text.push_levels.Given as goal

abbrev pub invariant-loop-net : goal.invariant-loop-net
invariant-loop-net l = l.out.items ++ level_lines (collected_level l.waves) 0 l.net (length l.waves - l.net) ≡ l.initial.out.items ++ level_lines (collected_level l.waves) 0 0 (length l.waves)
