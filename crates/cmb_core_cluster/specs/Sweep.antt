-- Steps of several nets, one after the other, each over the waves that the ones before it left.
use Rattle.std.specs.Prelude.{ℕ, Bool, false, ◌||◌, nat_lt, List, [], ◌∷◌}
use Rattle.cmb_wave.specs.Wave.{Wave}
use Rattle.cmb_design_model.specs.Design.{Design}
use Rattle.cmb_core_cluster.specs.Clusters.{step_waves}
use Rattle.cmb_core_cluster.specs.Step.{wave_at, step_reach}

-- the waves after a step of each of these nets in order
abbrev pub stepped_waves : Design → List Wave → List ℕ → List Wave
stepped_waves design waves [] = waves
stepped_waves design waves (net ∷ nets) = stepped_waves design (step_waves design waves (wave_at waves net)) nets

-- whether one of these steps raises its net's clock
abbrev pub some_rises : Design → List Wave → List ℕ → Bool
some_rises design waves [] = false
some_rises design waves (net ∷ nets) =
    nat_lt (wave_at waves net).clock (step_reach design waves (wave_at waves net).net) || some_rises design (step_waves design waves (wave_at waves net)) nets
