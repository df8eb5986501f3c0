use Rattle.std.proofs.Common.{◌≡◌, ◌++◌, ◌+◌, map}
use Rattle.std.specs.List.{range_with_len}
use Rattle.cmb_design_model.specs.Timing.{delay_by}
use Rattle.cmb_design_model.proofs.delays.push_delays.Given as goal

abbrev pub invariant-loop-pin : goal.invariant-loop-pin
invariant-loop-pin l = l.flat.items ≡ l.initial.flat.items ++ map (λ k. delay_by l.netlist l.rows l.net (k + 1)) (range_with_len 0 l.pin)
