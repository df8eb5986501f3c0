-- How a step of each of its nets brings a cluster's clocks on.
use Rattle.std.specs.Prelude.{◌≡◌, ℕ, suc, ◌≤◌, true, List}
use Rattle.cmb_wave.specs.Wave.{Wave}
use Rattle.cmb_design_model.specs.Design.{Design}
use Rattle.cmb_core_cluster.specs.Clustering.{Clustering, has_input}
use Rattle.cmb_core_cluster.specs.Opened.{IsOwnNet}
use Rattle.cmb_core_cluster.specs.Step.{wave_at}

-- each net that the cluster drives, and each that it is given, is known up to a tick at least
pub record IsHeldTo (design : Design) (clustering : Clustering) (cluster tick : ℕ) (waves : List Wave) : Type 0 where
  pub driven : (net : ℕ) → IsOwnNet design clustering cluster net → tick ≤ (wave_at waves net).clock
  pub given : (net : ℕ) → has_input design clustering cluster net ≡ true → tick ≤ (wave_at waves net).clock

-- no clock falls, what is given is known as far as before, and what is driven is known a tick further than all was before
pub record GoesOn (design : Design) (clustering : Clustering) (cluster : ℕ) (old new : List Wave) : Type 0 where
  pub rises : (net : ℕ) → (wave_at old net).clock ≤ (wave_at new net).clock
  pub still : (net : ℕ) → has_input design clustering cluster net ≡ true → (wave_at new net).clock ≡ (wave_at old net).clock
  pub further : (tick net : ℕ) → IsHeldTo design clustering cluster tick old → suc tick ≤ design.horizon → IsOwnNet design clustering cluster net → suc tick ≤ (wave_at new net).clock
