-- The waves of the nets that a cluster drives.
use Rattle.std.proofs.Common.{◌≡◌, ℕ, zero, suc, ◌<◌, Bool, true, false, not, ◌||◌, cond, eqb, List, [], ◌∷◌, ◌⊎◌, inl, inr, length, get_or, Option, Some, None, IsSome, refl, sym, ◌∙◌, ap, arith}
use Rattle.std.specs.List.{list_all}
use Rattle.std.proofs.lemmas.Bool.{and_parts, cases_eq, eqb-true, eq-eqb}
use Rattle.cmb_wave.specs.Wave.{Wave, new_wave}
use Rattle.cmb_design_model.specs.Design.{Design}
use Rattle.cmb_design_model.specs.Exact.{nets_of}
use Rattle.cmb_core_cluster.specs.declared.process.ProcessRule.TheVariants.{Given}
use Rattle.cmb_core_cluster.specs.Clustering.{Clustering, cluster_of, has_input}
use Rattle.cmb_core_cluster.specs.Clusters.{Cluster, IsSound, is_complete, process_at, slot_wave}
use Rattle.cmb_core_cluster.specs.Directory.{driven_among}
use Rattle.cmb_core_cluster.specs.Opened.{IsClusterOf, IsOwnNet, held_nets, is_own}
use Rattle.cmb_core_cluster.specs.Rows.{Process, is_given, slot_of}
use Rattle.cmb_core_cluster.specs.Step.{wave_at}
use Rattle.cmb_core_cluster.proofs.NetByNet.{long, process_here, slot_here}
use Rattle.cmb_core_cluster.proofs.OpeningFacts.{filter_range_all}
use Rattle.cmb_core_cluster.proofs.Slots.{slot_is}
use Rattle.cmb_core_cluster.proofs.OwnFacts.{own_placed, given_here}

-- what all driven waves pass the one in a place does
driven_passes : (test : Wave → Bool) (processes : List Process) (waves : List Wave) (i : ℕ) (p : Process) (w : Wave) → i < length processes → i < length waves
    → is_given (get_or processes i p).rule ≡ false → list_all test (driven_among processes waves) ≡ true → test (get_or waves i w) ≡ true
driven_passes test [] waves i p w h k own all = absurd (omega arith)
driven_passes test (q ∷ processes) [] i p w h k own all = absurd (omega arith)
driven_passes test (q ∷ processes) (v ∷ waves) zero p w h k own all = let all' : list_all test (v ∷ driven_among processes waves) ≡ true = rw own at all in (and_parts _ _ all').0
driven_passes test (q ∷ processes) (v ∷ waves) (suc i) p w h k own all = driven_passes test processes waves i p w (omega arith) (omega arith) own (rest (is_given q.rule) all)
  where
    rest : (b : Bool) → list_all test (cond b (driven_among processes waves) (v ∷ driven_among processes waves)) ≡ true → list_all test (driven_among processes waves) ≡ true
    rest true e = e
    rest false e = (and_parts _ _ e).1

-- all driven waves pass what those in their places do
driven_pass : (test : Wave → Bool) (processes : List Process) (waves : List Wave) (p : Process) (w : Wave)
    → ((i : ℕ) → i < length waves → is_given (get_or processes i p).rule ≡ false → test (get_or waves i w) ≡ true) → list_all test (driven_among processes waves) ≡ true
driven_pass test [] waves p w each = refl
driven_pass test (q ∷ processes) [] p w each = refl
driven_pass test (q ∷ processes) (v ∷ waves) p w each = go (is_given q.rule) refl (driven_pass test processes waves p w (λ i h own. each (suc i) (omega arith) own))
  where
    go : (b : Bool) → is_given q.rule ≡ b → list_all test (driven_among processes waves) ≡ true → list_all test (cond b (driven_among processes waves) (v ∷ driven_among processes waves)) ≡ true
    go true e rest = rest
    go false e rest = rw (each 0 (omega arith) e, rest) refl

-- a cluster of which each own net is known to the end is complete
pub known_complete : (design : Design) (clustering : Clustering) (cluster : ℕ) (s : Cluster) → IsClusterOf design clustering cluster s
    → ((net : ℕ) → IsOwnNet design clustering cluster net → (wave_at s.waves net).clock ≡ design.horizon) → is_complete s ≡ true
known_complete design clustering cluster s of known = driven_pass (λ wave. eqb wave.clock s.horizon) s.processes s.waves _ (new_wave 0) each
  where
    each : (i : ℕ) → i < length s.waves → is_given (process_at s i).rule ≡ false → eqb (slot_wave s i).clock s.horizon ≡ true
    each i h driven = go (cases_eq (cluster_of clustering (get_or (held_nets design clustering cluster) i 0)) cluster)
      where
        go : (cluster_of clustering (get_or (held_nets design clustering cluster) i 0) ≡ cluster) ⊎ (cluster_of clustering (get_or (held_nets design clustering cluster) i 0) ≡ cluster → ⊥) → eqb (slot_wave s i).clock s.horizon ≡ true
        go (inl own) =
            let there = filter_range_all (λ n. is_own clustering cluster n || has_input design clustering cluster n) (nets_of design) i 0 (long design clustering cluster s of i h) in
            let wave = slot_is s.waves (get_or (held_nets design clustering cluster) i 0) i (new_wave 0) (slot_here design clustering cluster s of i h) in
            eq-eqb _ _ (ap (λ (w : Wave). w.clock) wave.1 ∙ known (get_or (held_nets design clustering cluster) i 0) (record { there = there.0; own = own }) ∙ sym of.horizon)
        go (inr other) = let given : (process_at s i).rule ≡ Given = (process_here design clustering cluster s of i h).given other in let not_so : is_given (process_at s i).rule ≡ true = ap is_given given in cc

module _ (design : Design) (clustering : Clustering) (cluster : ℕ) (s : Cluster) (of : IsClusterOf design clustering cluster s) (paired : length s.waves ≡ length s.processes) (net : ℕ) (own : IsOwnNet design clustering cluster net) where
  -- the wave of one of its own nets stands in a place that isn't given
  pub own_wave : (slot : ℕ) × (slot < length s.waves) × (slot_wave s slot ≡ wave_at s.waves net) × (is_given (process_at s slot).rule ≡ false)
  own_wave = go (slot_of s.waves net) refl (own_placed design clustering cluster s of net own)
    where
      go : (o : Option ℕ) → slot_of s.waves net ≡ o → IsSome o → (slot : ℕ) × (slot < length s.waves) × (slot_wave s slot ≡ wave_at s.waves net) × (is_given (process_at s slot).rule ≡ false)
      go None e h = cc
      go (Some slot) e h =
          let wave = slot_is s.waves net slot (new_wave 0) e in
          let test : is_own clustering cluster net ≡ true = eq-eqb _ _ own.own in
          (slot, wave.0, wave.1, given_here design clustering cluster s of net slot e ∙ ap not test)

  pub own_known : is_complete s ≡ true → (wave_at s.waves net).clock ≡ design.horizon
  own_known all =
      let here = own_wave in
      let inside : here.0 < length s.processes = omega (arith, here.1, paired) in
      let known : (slot_wave s here.0).clock ≡ s.horizon = eqb-true _ _ (driven_passes (λ wave. eqb wave.clock s.horizon) s.processes s.waves here.0 _ _ inside here.1 here.3 all) in
      sym (ap (λ (w : Wave). w.clock) here.2) ∙ known ∙ of.horizon

  pub own_whole : IsSound s → (wave_at s.waves net).base ≡ 0
  own_whole sound =
      let here = own_wave in
      let inside : here.0 < length s.processes = omega (arith, here.1, paired) in
      sym (ap (λ (w : Wave). w.base) here.2) ∙ sound.whole here.0 inside here.3
