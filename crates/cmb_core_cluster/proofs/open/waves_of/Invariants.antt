use Rattle.std.proofs.Common.{◌≡◌, map, take}
use Rattle.cmb_wave.specs.Wave.{new_wave}
use Rattle.cmb_core_cluster.proofs.open.waves_of.Given as goal

abbrev pub invariant-loop-net : goal.invariant-loop-net
invariant-loop-net l = l.waves.items ≡ map new_wave (take l.net-index l.nets)
