use Rattle.std.proofs.Common.{◌≡◌, length}
use Rattle.cmb_dump.specs.Inner.Tails.{AreTails}
use Rattle.cmb_dump.proofs.tails.tails_of.Given as goal

abbrev pub invariant-loop-net : goal.invariant-loop-net
invariant-loop-net l = record {
  count : length l.tails.items ≡ l.net;
  right : AreTails l.tails.items;
}
