use Rattle.std.proofs.Common.{◌≡◌, map, take, get_or}
use Rattle.cmb_cone.proofs.part.renumbered_all.Given as goal

abbrev pub invariant-loop-net : goal.invariant-loop-net
invariant-loop-net l = l.numbers.items ≡ map (λ n. get_or l.places n 0) (take l.net-index l.nets)
