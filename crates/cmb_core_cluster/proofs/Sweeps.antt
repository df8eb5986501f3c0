-- A sweep over a cluster's waves, up to a place.
use Rattle.std.proofs.Common.{◌≡◌, ℕ, ◌+◌, ◌<◌, Bool, true, false, ◌||◌, cond, nat_le, nat_lt, List, length, take, Some, None, arith, refl, sym, ◌∙◌, subst}
use Rattle.std.specs.Prelude.{filter, is_some}
use Rattle.std.proofs.lemmas.Bool.Decides.{nat_tests}
use Rattle.std.specs.List.{AllByRecursion}
use Rattle.cmb_wave.specs.Waveform.{last_level, level_at, level_before}
use Rattle.cmb_wave.specs.Wave.{Piece, Wave}
use Rattle.cmb_design_model.specs.Design.{Design}
use Rattle.cmb_design_model.specs.Exact.{IsExactWaveIn}
use Rattle.cmb_core_cluster.specs.Clustering.{Clustering}
use Rattle.cmb_core_cluster.specs.Clusters.{Cluster, IsSameButWaves, IsSound, slot_wave}
use Rattle.cmb_core_cluster.specs.Inner.Spans.{changes_at, new_part, new_waves_at, reach_at}
use Rattle.cmb_core_cluster.specs.Exactness.{IsExactCluster}
use Rattle.cmb_core_cluster.specs.Opened.{IsClusterOf, is_own, held_nets}
use Rattle.cmb_core_cluster.specs.Sweep.{some_rises, stepped_waves}
use Rattle.cmb_core_cluster.proofs.ExactFacts.{moved_exact, still_exact}
use Rattle.cmb_core_cluster.proofs.NetByNet.{swept_waves, swept_rises, still_of, same_again}

abbrev pub own_to : Design → Clustering → ℕ → ℕ → List ℕ
own_to design clustering cluster n = filter (is_own clustering cluster) (take n (held_nets design clustering cluster))

-- the cluster `now` is what the first one is after a step of each of its nets whose waves stand before the place
pub record IsSwept (first now : Cluster) (slot : ℕ) (rose : Bool) : Type 0 where
  pub same : IsSameButWaves first now
  pub waves : (design : Design) (clustering : Clustering) (cluster : ℕ) → IsClusterOf design clustering cluster first → now.waves ≡ stepped_waves design first.waves (own_to design clustering cluster slot)
  pub rises : (design : Design) (clustering : Clustering) (cluster : ℕ) → IsClusterOf design clustering cluster first → rose ≡ some_rises design first.waves (own_to design clustering cluster slot)
  pub exact : (design : Design) (clustering : Clustering) (cluster : ℕ) → IsExactCluster design clustering cluster first → IsExactCluster design clustering cluster now

-- what a step in a place leaves
pub record IsAdvanced (s t : Cluster) (slot : ℕ) : Type 0 where
  pub sound : IsSound s
  pub same : IsSameButWaves s t
  pub waves : t.waves ≡ new_waves_at s slot
  pub before : (slot_wave s slot).clock < reach_at s slot → last_level (slot_wave s slot).kept (slot_wave s slot).changes ≡ level_before (level_at (slot_wave s slot).kept (slot_wave s slot).changes) (slot_wave s slot).clock

-- a step answers a part where its process can go on
pub part_rises : (s : Cluster) (i : ℕ) → is_some (new_part s i) ≡ nat_lt (slot_wave s i).clock (reach_at s i)
part_rises s i = go (nat_le (reach_at s i) (slot_wave s i).clock) refl
  where
    go : (b : Bool) → nat_le (reach_at s i) (slot_wave s i).clock ≡ b
        → is_some {T = Piece} (cond b None (Some (record { net = (slot_wave s i).net; from = (slot_wave s i).clock; to = reach_at s i; changes = changes_at s i }))) ≡ nat_lt (slot_wave s i).clock (reach_at s i)
    go true e = let idle : nat_lt (slot_wave s i).clock (reach_at s i) ≡ false = grind (arith, nat_tests) in sym idle
    go false e = let goes : nat_lt (slot_wave s i).clock (reach_at s i) ≡ true = grind (arith, nat_tests) in sym goes

-- a step in the place
pub swept_on : (first s t : Cluster) (slot : ℕ) (rose : Bool) → IsSwept first s slot rose → slot < length s.waves → IsAdvanced s t slot
    → IsSwept first t (slot + 1) (rose || nat_lt (slot_wave s slot).clock (reach_at s slot))
swept_on first s t slot rose swept here step = record {
  same = same_again first s t swept.same step.same;
  waves = λ design clustering cluster of.
      step.waves ∙ swept_waves design clustering cluster s (still_of design clustering cluster first s swept.same of) slot here step.before first.waves (swept.waves design clustering cluster of);
  rises = λ design clustering cluster of.
      swept_rises design clustering cluster s (still_of design clustering cluster first s swept.same of) slot here step.before first.waves rose (swept.waves design clustering cluster of) (swept.rises design clustering cluster of);
  exact = λ design clustering cluster start.
      let exact : IsExactCluster design clustering cluster s = swept.exact design clustering cluster start in
      let P : List Wave → Type 0 = λ ws. AllByRecursion (IsExactWaveIn design) ws in
      still_exact design clustering cluster s t step.same exact (subst P (sym step.waves) (moved_exact design clustering cluster s exact.of step.sound exact.waves slot here step.before));
}
