use Rattle.std.proofs.Common.{◌≡◌, ◌++◌}
use Rattle.std.specs.Prelude.{replicate}
use Rattle.cmb_engine.specs.Inner.Cells.{Told}
use Rattle.cmb_engine.proofs.cells.Cells.push_told_ones.Given as goal

abbrev pub invariant-loop : goal.invariant-loop
invariant-loop l = l.self ≡ l.initial.self ++ replicate l.counter Told
