use Rattle.std.proofs.Common.{◌≡◌}
use Rattle.cmb_run_text.specs.Collector.{new_waves}
use Rattle.cmb_run_text.proofs.collector.make_waves.Given as goal

abbrev pub invariant-loop-net : goal.invariant-loop-net
invariant-loop-net l = l.waves.items ≡ new_waves l.net
