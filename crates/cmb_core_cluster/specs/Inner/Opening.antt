-- What the parts of opening a cluster find.
use Rattle.std.specs.Prelude.{◌≡◌, ℕ, ◌<◌, Bool, false, ◌&&◌, ◌==◌, List, [], ◌∷◌, length, slice_index_or, Option, Some, None, IsSome}
use Rattle.cmb_wave.specs.Wave.{Wave}
use Rattle.cmb_design_model.specs.Design.{Design}
use Rattle.cmb_design_model.specs.Exact.{nets_of}
use Rattle.cmb_core_cluster.specs.declared.process.ProcessPin.{ProcessPin}
use Rattle.cmb_core_cluster.specs.Clustering.{Clustering, cluster_of, some_below, net_reads}
use Rattle.cmb_core_cluster.specs.Rows.{Process, IsReadyFor, slot_of}
use Rattle.cmb_core_cluster.specs.Step.{wave_at}

-- for each net whether one of the cluster's nets below a number reads it
pub record AreRead (design : Design) (clustering : Clustering) (cluster upto : ℕ) (read : List Bool) : Type 0 where
  pub count : length read ≡ nets_of design
  pub each : (net : ℕ) → net < nets_of design → slice_index_or read net false ≡ some_below (λ reader. cluster_of clustering reader == cluster && net_reads design reader net) upto

-- each of these nets has a place
abbrev pub ArePlaced : List (Option ℕ) → List ℕ → Type 0
ArePlaced places [] = Unit {0}
ArePlaced places (net ∷ nets) = IsSome (slice_index_or places net None) × ArePlaced places nets

-- operands have the places of their nets
abbrev pub AreAt : List (Option ℕ) → List ProcessPin → Type 0
AreAt places [] = Unit {0}
AreAt places (o ∷ os) = (slice_index_or places o.net None ≡ Some o.slot) × AreAt places os

-- waves that have these places, all of which is kept
pub record AreWhole (places : List (Option ℕ)) (waves : List Wave) : Type 0 where
  pub slots : (net : ℕ) → slot_of waves net ≡ slice_index_or places net None
  pub bases : (net : ℕ) → (wave_at waves net).base ≡ 0

-- a process is ready to start over any such waves
pub record StartsOn (places : List (Option ℕ)) (process : Process) : Type 0 where
  pub at : AreAt places process.operands
  pub ready : (waves : List Wave) → AreWhole places waves → IsReadyFor waves 0 process.rule process.operands process.stimulus

abbrev pub AllStartOn : List (Option ℕ) → List Process → Type 0
AllStartOn places [] = Unit {0}
AllStartOn places (process ∷ processes) = StartsOn places process × AllStartOn places processes
