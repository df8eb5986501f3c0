use Rattle.std.proofs.Common.{ℕ, ◌≤◌, length}
use Rattle.std.specs.List.{AllByRecursion}
use Rattle.cmb_design_model.specs.Exact.{IsExactWaveIn}
use Rattle.cmb_run_text.specs.Collector.{wave_of}
use Rattle.cmb_run_rounds.proofs.HandFacts.{IsGiven}
use Rattle.cmb_run_rounds.proofs.collected.Collected.adopt_all.Given as goal

-- what is known so far of the waves that are left and of those that were taken is known of all
abbrev pub invariant-loop-wave : goal.invariant-loop-wave
invariant-loop-wave g l = record {
  exact : AllByRecursion (IsExactWaveIn g.T.ClusterRun.design) l.waves.items;
  keeps : (net : ℕ) → (wave_of l.initial.self.waves net).clock ≤ (wave_of l.self.waves net).clock;
  given : (known : ℕ → ℕ) → ((net : ℕ) → (wave_of l.self.waves net).clock ≤ known net) → AllByRecursion (IsGiven known) l.waves.items → AllByRecursion (IsGiven known) l.initial.waves.items;
}

abbrev pub decreases-loop-wave : goal.decreases-loop-wave
decreases-loop-wave g l = length l.waves.items
