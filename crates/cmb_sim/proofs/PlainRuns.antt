-- The whole waves of a design as a collector's, and the table that holds them.
use Rattle.std.proofs.Common.{◌≡◌, ℕ, ◌<◌, List, refl, subst, sym, ◌∙◌, None}
use Rattle.std.proofs.lemmas.Bool.{lt-ltb}
use Rattle.cmb_wave.specs.Wave.{Wave}
use Rattle.cmb_design_model.specs.Design.{Design}
use Rattle.cmb_design_model.specs.Checks.{first_fault}
use Rattle.cmb_design_model.specs.Plain.{cells_of, whole_waves}
use Rattle.cmb_cli_line.specs.declared.mode.Mode.TheVariants.{Plain}
use Rattle.cmb_sim.specs.Simulation.{mode_checks}
use Rattle.cmb_sim.proofs.ModeFacts.{plain_too_large}
use Rattle.cmb_run_text.proofs.ExactFacts.{whole_waves_complete, whole_waves_exact}
use Rattle.cmb_run_text.specs.Collector.{AreCollected, Collector, IsComplete, IsExactFor}

pub AreCollected-whole : (design : Design) (waves : List Wave) (horizon : ℕ) → waves ≡ whole_waves design → horizon ≡ design.horizon → AreCollected horizon waves
AreCollected-whole design waves horizon p q = rw (p, q) (whole_waves_exact design).collected

module _ (design : Design) (k : Collector) (waves : List Wave) (horizon : ℕ) (e : k ≡ record { waves = waves; horizon = horizon }) (p : waves ≡ whole_waves design) (q : horizon ≡ design.horizon) where
  is_whole : k ≡ record { waves = whole_waves design; horizon = design.horizon }
  is_whole = e ∙ rw (p, q) refl

  pub IsComplete-whole : IsComplete k
  IsComplete-whole = let P : Collector → Type 0 = λ x. IsComplete x in subst P (sym is_whole) (whole_waves_complete design)

  pub IsExactFor-whole : IsExactFor design k
  IsExactFor-whole = subst (IsExactFor design) (sym is_whole) (whole_waves_exact design)

-- a table that the check of the mode lets pass isn't too large
pub fits_table : (design : Design) → first_fault (mode_checks Plain design) ≡ None → 16777216 < cells_of design → ⊥
fits_table design none h = let some = plain_too_large design (lt-ltb 16777216 (cells_of design) h) in cc
