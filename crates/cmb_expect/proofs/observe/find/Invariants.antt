use Rattle.std.proofs.Common.{ℕ, ◌≤◌, ◌-◌, length}
use Rattle.cmb_wave.specs.declared.level.Level.{Level}
use Rattle.cmb_expect.specs.Inner.Probes.{AreFound, AreLater}
use Rattle.cmb_expect.specs.Inner.Traces.{AreTraces}
use Rattle.cmb_expect.proofs.observe.find.Given as goal

abbrev pub invariant-loop-done : goal.invariant-loop-done
invariant-loop-done l =
    (l.fn.next ≤ l.done) × (l.done ≤ length l.probes)
    × ((level : ℕ → ℕ → Level) (from : ℕ) → AreLater from l.probes l.fn.next → AreTraces level (length l.traces) from l.fn.clock l.traces
    → AreFound level l.probes l.fn.next l.initial.found → AreFound level l.probes l.done l.found)

abbrev pub decreases-loop-done : goal.decreases-loop-done
decreases-loop-done l = length l.probes - l.done
