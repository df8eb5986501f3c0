use Rattle.std.proofs.Common.{◌≡◌, ℕ, ◌≤◌, ◌<◌, take, drop}
use Rattle.cmb_core_cluster.specs.Inner.Arrivals.{pins_at, levels, least_due}
use Rattle.cmb_core_cluster.proofs.merge.let_through.Given as goal

abbrev pub invariant-loop-pin : goal.invariant-loop-pin
invariant-loop-pin l = record {
  same : (t : ℕ) → l.now ≤ t → pins_at (take l.pin-index l.pins) t ≡ pins_at (take l.pin-index l.initial.pins) t;
  steady : (t : ℕ) → l.now ≤ t → t < l.next → pins_at (take l.pin-index l.pins) t ≡ levels (take l.pin-index l.pins);
  rest : drop l.pin-index l.pins ≡ drop l.pin-index l.initial.pins;
  later : l.now < l.next;
  within : l.next ≤ l.until;
  due : l.next ≡ least_due (take l.pin-index l.pins) l.until;
}
