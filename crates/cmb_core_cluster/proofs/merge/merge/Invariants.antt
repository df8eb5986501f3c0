use Rattle.std.proofs.Common.{◌≡◌, ℕ, ◌≤◌, ◌-◌, ◌++◌, length}
use Rattle.cmb_wave.specs.Waveform.{last_level}
use Rattle.cmb_core_cluster.specs.Inner.Spans.{changes_from}
use Rattle.cmb_core_cluster.specs.Inner.Arrivals.{pins_at, gate_at}
use Rattle.cmb_netlist.specs.Netlist.{MayTake}
use Rattle.cmb_core_cluster.proofs.merge.merge.Given as goal

abbrev pub invariant-loop-now : goal.invariant-loop-now
invariant-loop-now l = record {
  same : (t : ℕ) → l.now ≤ t → pins_at l.pins t ≡ pins_at l.initial.pins t;
  made : l.changes.items ≡ l.initial.changes.items ++ changes_from (gate_at l.kind l.initial.pins) l.initial.last l.span.from (l.now - l.span.from);
  left : l.last ≡ last_level l.initial.last (changes_from (gate_at l.kind l.initial.pins) l.initial.last l.span.from (l.now - l.span.from));
  takes : MayTake l.kind (length l.pins);
  begun : l.span.from ≤ l.now;
  within : l.now ≤ l.span.until;
}

abbrev pub decreases-loop-now : goal.decreases-loop-now
decreases-loop-now l = l.span.until - l.now
