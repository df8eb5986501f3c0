use Rattle.std.proofs.Common.{◌≡◌, drop}
use Rattle.cmb_bench.specs.Inner.Views.{mentions}
use Rattle.cmb_bench.specs.Inner.Building.{numbers_in}
use Rattle.cmb_bench.proofs.Numbers.{with_numbers}
use Rattle.cmb_bench.proofs.build.numbers_of.Given as goal

abbrev pub invariant-loop-used : goal.invariant-loop-used
invariant-loop-used l = with_numbers l.numbers.items (numbers_in l.names.keys (mentions (drop l.used-index l.uses))) ≡ numbers_in l.names.keys (mentions l.uses)
