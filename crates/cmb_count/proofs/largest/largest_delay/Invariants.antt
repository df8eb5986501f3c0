use Rattle.cmb_count.specs.Largest.{BoundsBelow, IsDelayOfPin}
use Rattle.cmb_count.proofs.largest.largest_delay.Given as goal

abbrev pub invariant-loop-net : goal.invariant-loop-net
invariant-loop-net l = record {
  bounds : BoundsBelow l.design l.net l.most;
  met : IsDelayOfPin l.design l.most;
}
