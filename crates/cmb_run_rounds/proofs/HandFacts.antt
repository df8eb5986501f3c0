-- What a worker's cluster knows after its part of a round, and at the end.
use Rattle.std.proofs.Common.{◌≡◌, ℕ, ◌≤◌, false, ltb, List, [], ◌∷◌, length, Option, Some, None, IsSome, refl, sym, ◌∙◌, ap, subst, arith}
use Rattle.std.specs.List.{AllByRecursion}
use Rattle.std.proofs.lemmas.Bool.{le-ltb}
use Rattle.std.proofs.lemmas.List.Elements.{All-from_recursion, All-get_or}
use Rattle.cmb_wave.specs.Wave.{Wave, new_wave}
use Rattle.cmb_netlist.specs.Netlist.{IsNetlist, driver_of}
use Rattle.cmb_design_model.specs.Design.{Design}
use Rattle.cmb_core_cluster.specs.Clustering.{Clustering}
use Rattle.cmb_core_cluster.specs.Clusters.{Cluster}
use Rattle.cmb_core_cluster.specs.Onward.{GoesOn}
use Rattle.cmb_core_cluster.specs.Opened.{IsClusterOf, IsOwnNet, own_nets}
use Rattle.cmb_core_cluster.specs.Rows.{slot_of}
use Rattle.cmb_core_cluster.specs.Step.{wave_at, step_reach, told_upto}
use Rattle.cmb_core_cluster.specs.Sweep.{stepped_waves}
use Rattle.cmb_core_cluster.proofs.Everywhere.{all_weaker}
use Rattle.cmb_core_cluster.proofs.OnwardFacts.{sweep_goes_on}
use Rattle.cmb_core_cluster.proofs.OwnFacts.{own_placed}
use Rattle.cmb_core_cluster.proofs.ReachFacts.{driver_reach-within}
use Rattle.cmb_core_cluster.proofs.Slots.{slot_is}
use Rattle.cmb_run_rounds.specs.Inner.Rounds.{IsSwept}
use Rattle.cmb_run_rounds.proofs.EventFacts.{all_own_nets}

-- ---- a worker's part of a round

-- a cluster whose clocks are those of a sweep was swept, also by the name that it had before
pub swept_as : (design : Design) (clustering : Clustering) (s old : Cluster) (new : List Wave) → s ≡ old
    → ((cluster net : ℕ) → IsClusterOf design clustering cluster s → (wave_at new net).clock ≡ (wave_at (stepped_waves design s.waves (own_nets design clustering cluster)) net).clock)
    → (cluster : ℕ) → IsClusterOf design clustering cluster old → IsSwept design clustering cluster old.waves new
swept_as design clustering s old new same clocks cluster of =
    let there : IsClusterOf design clustering cluster s = subst (λ (t : Cluster). IsClusterOf design clustering cluster t) (sym same) of in
    subst (λ (t : Cluster). IsSwept design clustering cluster t.waves new) same (λ net. clocks cluster net there)

-- steps of nets that are known to the end change nothing
stepped_whole : (design : Design) (waves : List Wave) (nets : List ℕ) → AllByRecursion (λ net. (wave_at waves net).clock ≡ design.horizon) nets → stepped_waves design waves nets ≡ waves
stepped_whole design waves [] all = refl
stepped_whole design waves (net ∷ nets) all =
    let still : ltb (wave_at waves net).clock (step_reach design waves (wave_at waves net).net) ≡ false = le-ltb _ _ (omega (arith, all.0, driver_reach-within design (told_upto waves) (wave_at waves net).net (driver_of design.netlist (wave_at waves net).net))) in
    rw still (stepped_whole design waves nets all.1)

pub whole_swept : (design : Design) (clustering : Clustering) (s old : Cluster) → s ≡ old
    → ((cluster net : ℕ) → IsClusterOf design clustering cluster s → IsOwnNet design clustering cluster net → (wave_at s.waves net).clock ≡ design.horizon)
    → (cluster : ℕ) → IsClusterOf design clustering cluster old → IsSwept design clustering cluster old.waves s.waves
whole_swept design clustering s old same known =
    swept_as design clustering s old s.waves same
    (λ cluster net of. ap (λ (ws : List Wave). (wave_at ws net).clock) (sym (stepped_whole design s.waves (own_nets design clustering cluster) (all_weaker (IsOwnNet design clustering cluster) (λ m. (wave_at s.waves m).clock ≡ design.horizon) (λ m own. known cluster m of own) (own_nets design clustering cluster) (all_own_nets design clustering cluster)))))

pub swept_goes_on : (design : Design) (clustering : Clustering) (cluster : ℕ) (s : Cluster) (new : List Wave) → IsNetlist design.netlist → IsClusterOf design clustering cluster s → IsSwept design clustering cluster s.waves new → GoesOn design clustering cluster s.waves new
swept_goes_on design clustering cluster s new netlist of swept = record {
  rises = λ net. omega (arith, on.rises net, swept net);
  still = λ net reads. swept net ∙ on.still net reads;
  further = λ tick net held within own. omega (arith, on.further tick net held within own, swept net);
}
  where
    on : GoesOn design clustering cluster s.waves (stepped_waves design s.waves (own_nets design clustering cluster))
    on = sweep_goes_on design netlist clustering cluster s of

-- ---- what all waves have, the wave of a net does

pub own_among : (design : Design) (clustering : Clustering) (cluster : ℕ) (s : Cluster) → IsClusterOf design clustering cluster s → (net : ℕ) → IsOwnNet design clustering cluster net → (P : Wave → Type 0) → AllByRecursion P s.waves → P (wave_at s.waves net)
own_among design clustering cluster s of net own P all = go (slot_of s.waves net) refl (own_placed design clustering cluster s of net own)
  where
    go : (o : Option ℕ) → slot_of s.waves net ≡ o → IsSome o → P (wave_at s.waves net)
    go None e h = cc
    go (Some slot) e h =
        let there = slot_is s.waves net slot (new_wave 0) e in
        subst P there.1 (All-get_or P s.waves slot (new_wave 0) there.0 (All-from_recursion P s.waves all))

-- ---- lists of waves and what is given

-- a wave that has forgotten nothing is known so far at least
abbrev pub IsGiven : (ℕ → ℕ) → Wave → Type 0
IsGiven known wave = wave.base ≡ 0 → wave.clock ≤ known wave.net

pub all_none : (P : Wave → Type 0) (ws : List Wave) → length ws ≡ 0 → AllByRecursion P ws
all_none P [] e = tt
all_none P (w ∷ ws) e = absurd (omega (arith, e))
