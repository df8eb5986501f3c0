use Rattle.std.proofs.Common.{◌≡◌, map, take, get_or}
use Rattle.std.specs.Prelude.{nat_eq}
use Rattle.std.specs.List.{IsDistinct, filter}
use Rattle.cmb_cone.specs.Restriction.{is_among}
use Rattle.cmb_cone.proofs.part.outputs_of.Given as goal

abbrev pub invariant-loop-net : goal.invariant-loop-net
invariant-loop-net l = record {
  kept : l.outputs.keys ≡ map (λ n. get_or l.kept.places.now n 0) (filter (is_among l.kept.nets.now) (take l.net-index l.all));
  distinct : IsDistinct nat_eq l.outputs.keys;
}
