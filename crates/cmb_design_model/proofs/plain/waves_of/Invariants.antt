use Rattle.std.proofs.Common.{◌≡◌, map}
use Rattle.std.specs.List.{range_with_len}
use Rattle.cmb_design_model.specs.Plain.{whole_wave}
use Rattle.cmb_design_model.proofs.plain.waves_of.Given as goal

abbrev pub invariant-loop-net : goal.invariant-loop-net
invariant-loop-net l = l.waves.items ≡ map (whole_wave l.design) (range_with_len 0 l.net)
