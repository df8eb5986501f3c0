use Rattle.std.proofs.Common.{◌≡◌, ◌+◌, ◌*◌, ℕ, ◌<◌, true, length, slice_index}
use Rattle.cmb_design_model.specs.Timing.{delay}
use Rattle.cmb_count.specs.Inner.Arrivals.{Covers, IsReached, IsWithin, time_of}
use Rattle.cmb_count.specs.Paths.{Arrives, is_origin, launch, operands}
use Rattle.cmb_count.proofs.arrivals.arrival_at.Given as goal

abbrev pub invariant-loop-k : goal.invariant-loop-k
invariant-loop-k l = record {
  reached : ((other : ℕ) → other < length l.design.netlist.names → IsReached (Arrives l.design l.fn.between other) (time_of l.components.numbers.items l.times other))
      → IsReached (Arrives l.design l.fn.between l.net) l.arrival;
  launched : is_origin l.fn.between l.design l.net ≡ true → Covers l.arrival (launch l.design l.net);
  relaxed : (k : ℕ) → k < l.k → (ticks : ℕ)
      → Covers (time_of l.components.numbers.items l.times (slice_index (operands l.design.netlist l.net) k)) ticks → Covers l.arrival (ticks + delay l.design l.net (k + 1));
  small : ((k : ℕ) → k < length (operands l.design.netlist l.net) → slice_index l.components.numbers.items (slice_index (operands l.design.netlist l.net) k) < slice_index l.components.numbers.items l.net)
      → IsWithin ((slice_index l.components.numbers.items l.net + 1) * 1000000) l.arrival;
}
