use Rattle.std.proofs.Common.{◌≡◌, take}
use Rattle.std.specs.Prelude.{filter}
use Rattle.cmb_shares.specs.Inner.Simulators.{is_fed}
use Rattle.cmb_shares.proofs.simulator.feed_of.Given as goal

abbrev pub invariant-loop-one : goal.invariant-loop-one
invariant-loop-one l = l.fed.items ≡ filter (is_fed l.owners l.number l.driven) (take l.one-index l.told)
