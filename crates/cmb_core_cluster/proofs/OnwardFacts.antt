-- A step of each net that a cluster drives brings these a tick further than all was known before.
use Rattle.std.proofs.Common.{◌≡◌, ℕ, zero, suc, ◌+◌, ◌<◌, ◌≤◌, Bool, true, false, ◌||◌, cond, eqb, ltb, List, [], ◌∷◌, ◌⊎◌, inl, inr, refl, sym, ◌∙◌, ap, subst, arith}
use Rattle.std.specs.Prelude.{filter}
use Rattle.std.specs.List.{AllByRecursion, list_any, range_with_len}
use Rattle.std.proofs.lemmas.Bool.{eq-eqb, eqb-true, ltb-true, ltb-false, or_left, or_right, cases_eq, cond_both}
use Rattle.cmb_wave.specs.Wave.{Wave, wave_with_piece}
use Rattle.cmb_netlist.specs.Netlist.{driver_of, pins_of, IsNetlist}
use Rattle.cmb_design_model.specs.Design.{Design}
use Rattle.cmb_design_model.specs.Exact.{nets_of}
use Rattle.cmb_core_cluster.specs.Clustering.{Clustering, cluster_of, has_input}
use Rattle.cmb_core_cluster.specs.Clusters.{Cluster, wave_nets, step_waves}
use Rattle.cmb_core_cluster.specs.Onward.{IsHeldTo, GoesOn}
use Rattle.cmb_core_cluster.specs.Opened.{IsClusterOf, IsOwnNet, is_own, own_nets}
use Rattle.cmb_core_cluster.specs.Step.{wave_at, told_upto, step_reach, step_piece, with_wave}
use Rattle.cmb_core_cluster.specs.Sweep.{stepped_waves}
use Rattle.cmb_core_cluster.proofs.Steps.{wave_at-net}
use Rattle.cmb_core_cluster.proofs.Everywhere.{all_weaker}
use Rattle.cmb_core_cluster.proofs.NetReads.{IsPin, has_input-from, pins-are, has_input-not_own}
use Rattle.cmb_core_cluster.proofs.ReachFacts.{driver_reach-at_least}
use Rattle.cmb_core_cluster.proofs.Replacing.{has_wave, has_wave-with, wave_at-with_same, wave_at-with_other}

-- ---- numbers that pass a test

pub filter_all : (p : ℕ → Bool) (P : ℕ → Type 0) (a n : ℕ) → ((x : ℕ) → x < a + n → p x ≡ true → P x) → AllByRecursion P (filter p (range_with_len a n))
filter_all p P a zero each = tt
filter_all p P a (suc n) each = go (p a) refl (filter_all p P (a + 1) n (λ x h e. each x (omega arith) e))
  where
    go : (b : Bool) → p a ≡ b → AllByRecursion P (filter p (range_with_len (a + 1) n)) → AllByRecursion P (cond b (a ∷ filter p (range_with_len (a + 1) n)) (filter p (range_with_len (a + 1) n)))
    go true e rest = (each a (omega arith) e, rest)
    go false e rest = rest

filter_any : (p : ℕ → Bool) (a n x : ℕ) → a ≤ x → x < a + n → p x ≡ true → list_any (λ y. eqb y x) (filter p (range_with_len a n)) ≡ true
filter_any p a zero x low high e = absurd (omega arith)
filter_any p a (suc n) x low high e = go (p a) refl (cases_eq a x) (λ above. filter_any p (a + 1) n x above (omega arith) e)
  where
    go : (b : Bool) → p a ≡ b → (a ≡ x) ⊎ (a ≡ x → ⊥) → (a + 1 ≤ x → list_any (λ y. eqb y x) (filter p (range_with_len (a + 1) n)) ≡ true) → list_any (λ y. eqb y x) (cond b (a ∷ filter p (range_with_len (a + 1) n)) (filter p (range_with_len (a + 1) n))) ≡ true
    go true q (inl same) rest = or_left _ _ (eq-eqb a x same)
    go true q (inr ne) rest = or_right _ _ (rest (omega arith))
    go false q (inl same) rest = let not_so : p a ≡ true = ap p same ∙ e in cc
    go false q (inr ne) rest = rest (omega arith)

has_wave-nets : (waves : List Wave) (net : ℕ) → has_wave waves net ≡ list_any (λ y. eqb y net) (wave_nets waves)
has_wave-nets [] net = refl
has_wave-nets (wave ∷ waves) net = ap (λ b. eqb wave.net net || b) (has_wave-nets waves net)

-- ---- one step

module _ (design : Design) (waves : List Wave) (net : ℕ) (has : has_wave waves net ≡ true) where
  abbrev after : List Wave
  after = step_waves design waves (wave_at waves net)

  abbrev grown_wave : Wave
  grown_wave = wave_with_piece (wave_at waves net) (step_piece design waves (wave_at waves net))

  grown_there : wave_at (with_wave waves grown_wave) net ≡ grown_wave
  grown_there =
      let same : (wave_at waves net).net ≡ net = wave_at-net waves net in
      let P : ℕ → Type 0 = λ n. wave_at (with_wave waves grown_wave) n ≡ grown_wave in
      subst P same (wave_at-with_same waves grown_wave (ap (has_wave waves) same ∙ has))

  -- its clock is the reach, where that is above it
  pub step_clock : (wave_at after net).clock ≡ cond (ltb (wave_at waves net).clock (step_reach design waves net)) (step_reach design waves net) (wave_at waves net).clock
  step_clock = go (ltb (wave_at waves net).clock (step_reach design waves (wave_at waves net).net)) (ap (λ (reach : ℕ). ltb (wave_at waves net).clock reach) same)
    where
      same : step_reach design waves (wave_at waves net).net ≡ step_reach design waves net
      same = ap (step_reach design waves) (wave_at-net waves net)

      go : (b : Bool) → b ≡ ltb (wave_at waves net).clock (step_reach design waves net) → (wave_at (cond b (with_wave waves grown_wave) waves) net).clock ≡ cond (ltb (wave_at waves net).clock (step_reach design waves net)) (step_reach design waves net) (wave_at waves net).clock
      go true e = rw (sym e) (ap (λ (w : Wave). w.clock) grown_there ∙ same)
      go false e = rw (sym e) refl

  step_reaches : step_reach design waves net ≤ (wave_at after net).clock
  step_reaches =
      rw step_clock (cond_both (ltb (wave_at waves net).clock (step_reach design waves net)) _ _ (λ (clock : ℕ). step_reach design waves net ≤ clock) (λ above. omega arith) (λ below. ltb-false _ _ below))

  step_rises : (other : ℕ) → (wave_at waves other).clock ≤ (wave_at after other).clock
  step_rises other = go (ltb (wave_at waves net).clock (step_reach design waves (wave_at waves net).net)) refl (cases_eq other net)
    where
      go : (b : Bool) → ltb (wave_at waves net).clock (step_reach design waves (wave_at waves net).net) ≡ b → (other ≡ net) ⊎ (other ≡ net → ⊥) → (wave_at waves other).clock ≤ (wave_at (cond b (with_wave waves grown_wave) waves) other).clock
      go true e (inl same) =
          let far : (wave_at (with_wave waves grown_wave) net).clock ≡ step_reach design waves (wave_at waves net).net = ap (λ (w : Wave). w.clock) grown_there in
          let P : ℕ → Type 0 = λ n. (wave_at waves n).clock ≤ (wave_at (with_wave waves grown_wave) n).clock in
          subst P (sym same) (omega (arith, far, ltb-true _ _ e))
      go true e (inr ne) =
          let still : wave_at (with_wave waves grown_wave) other ≡ wave_at waves other = wave_at-with_other waves grown_wave other (λ q. ne (q ∙ wave_at-net waves net)) in
          let clock : (wave_at (with_wave waves grown_wave) other).clock ≡ (wave_at waves other).clock = ap (λ (w : Wave). w.clock) still in
          omega (arith, clock)
      go false e _ = omega arith

  pub step_still : (other : ℕ) → (other ≡ net → ⊥) → (wave_at after other).clock ≡ (wave_at waves other).clock
  step_still other ne = go (ltb (wave_at waves net).clock (step_reach design waves (wave_at waves net).net))
    where
      go : (b : Bool) → (wave_at (cond b (with_wave waves grown_wave) waves) other).clock ≡ (wave_at waves other).clock
      go true = ap (λ (w : Wave). w.clock) (wave_at-with_other waves grown_wave other (λ q. ne (q ∙ wave_at-net waves net)))
      go false = refl

  pub step_has : (other : ℕ) → has_wave after other ≡ has_wave waves other
  step_has other = go (ltb (wave_at waves net).clock (step_reach design waves (wave_at waves net).net))
    where
      go : (b : Bool) → has_wave (cond b (with_wave waves grown_wave) waves) other ≡ has_wave waves other
      go true = has_wave-with waves grown_wave other
      go false = refl

-- ---- steps of several nets

abbrev pub HasAll : List Wave → List ℕ → Type 0
HasAll waves nets = AllByRecursion (λ net. has_wave waves net ≡ true) nets

module _ (design : Design) where
  pub has_rest : (waves : List Wave) (net : ℕ) (nets : List ℕ) → has_wave waves net ≡ true → HasAll waves nets → HasAll (step_waves design waves (wave_at waves net)) nets
  has_rest waves net nets has all =
      all_weaker (λ other. has_wave waves other ≡ true) (λ other. has_wave (step_waves design waves (wave_at waves net)) other ≡ true) (λ other h. step_has design waves net has other ∙ h) nets all

  sweep_rises : (waves : List Wave) (nets : List ℕ) → HasAll waves nets → (net : ℕ) → (wave_at waves net).clock ≤ (wave_at (stepped_waves design waves nets) net).clock
  sweep_rises waves [] has net = omega arith
  sweep_rises waves (first ∷ nets) has net =
      omega (arith, step_rises design waves first has.0 net, sweep_rises (step_waves design waves (wave_at waves first)) nets (has_rest waves first nets has.0 has.1) net)

  sweep_still : (waves : List Wave) (nets : List ℕ) → HasAll waves nets → (net : ℕ) → AllByRecursion (λ other. net ≡ other → ⊥) nets → (wave_at (stepped_waves design waves nets) net).clock ≡ (wave_at waves net).clock
  sweep_still waves [] has net apart = refl
  sweep_still waves (first ∷ nets) has net apart =
      sweep_still (step_waves design waves (wave_at waves first)) nets (has_rest waves first nets has.0 has.1) net apart.1 ∙ step_still design waves first has.0 net apart.0

module _ (design : Design) (netlist : IsNetlist design.netlist) (clustering : Clustering) (cluster : ℕ) where
  -- what a net reads is driven here or given
  told_at_least : (waves : List Wave) (tick net pin : ℕ) → IsHeldTo design clustering cluster tick waves → IsOwnNet design clustering cluster net → IsPin design net pin → tick ≤ (wave_at waves pin).clock
  told_at_least waves tick net pin held own is = go (cases_eq (cluster_of clustering pin) cluster)
    where
      go : (cluster_of clustering pin ≡ cluster) ⊎ (cluster_of clustering pin ≡ cluster → ⊥) → tick ≤ (wave_at waves pin).clock
      go (inl here) = held.driven pin (record { there = is.0; own = here })
      go (inr other) =
          let P : ℕ → Type 0 = λ c. has_input design clustering c pin ≡ true in
          held.given pin (subst P own.own (has_input-from design clustering net pin own.there is.1 (λ q. other (q ∙ own.own))))

  reach_at_least : (waves : List Wave) (tick net : ℕ) → IsHeldTo design clustering cluster tick waves → IsOwnNet design clustering cluster net → suc tick ≤ design.horizon → suc tick ≤ step_reach design waves net
  reach_at_least waves tick net held own within =
      driver_reach-at_least design (told_upto waves) net tick (driver_of design.netlist net)
      (all_weaker (IsPin design net) (λ pin. tick ≤ told_upto waves pin) (λ pin is. told_at_least waves tick net pin held own is) (pins_of (driver_of design.netlist net)) (pins-are design netlist net))
      within

  held_after : (waves : List Wave) (tick net : ℕ) → has_wave waves net ≡ true → IsHeldTo design clustering cluster tick waves → IsHeldTo design clustering cluster tick (step_waves design waves (wave_at waves net))
  held_after waves tick net has held = record {
    driven = λ other own. omega (arith, held.driven other own, step_rises design waves net has other);
    given = λ other reads. omega (arith, held.given other reads, step_rises design waves net has other);
  }

  sweep_further : (waves : List Wave) (nets : List ℕ) (tick net : ℕ) → HasAll waves nets → IsHeldTo design clustering cluster tick waves → IsOwnNet design clustering cluster net → suc tick ≤ design.horizon → list_any (λ other. eqb other net) nets ≡ true
      → suc tick ≤ (wave_at (stepped_waves design waves nets) net).clock
  sweep_further waves [] tick net has held own within among = cc
  sweep_further waves (first ∷ nets) tick net has held own within among =
      go (eqb first net) refl among (has_rest design waves first nets has.0 has.1) (sweep_further (step_waves design waves (wave_at waves first)) nets tick net (has_rest design waves first nets has.0 has.1) (held_after waves tick first has.0 held) own within)
    where
      go : (b : Bool) → eqb first net ≡ b → (b || list_any (λ other. eqb other net) nets) ≡ true → HasAll (step_waves design waves (wave_at waves first)) nets
          → (list_any (λ other. eqb other net) nets ≡ true → suc tick ≤ (wave_at (stepped_waves design (step_waves design waves (wave_at waves first)) nets) net).clock)
          → suc tick ≤ (wave_at (stepped_waves design (step_waves design waves (wave_at waves first)) nets) net).clock
      go true e among' has_later rest =
          let same : first ≡ net = eqb-true first net e in
          let here : IsOwnNet design clustering cluster first = subst (IsOwnNet design clustering cluster) (sym same) own in
          let P : ℕ → Type 0 = λ n. suc tick ≤ (wave_at (stepped_waves design (step_waves design waves (wave_at waves first)) nets) n).clock in
          subst P same (omega (arith, reach_at_least waves tick first held here within, step_reaches design waves first has.0, sweep_rises design (step_waves design waves (wave_at waves first)) nets has_later first))
      go false e among' has_later rest = rest among'

  -- ---- all nets that the cluster drives

  module _ (s : Cluster) (of : IsClusterOf design clustering cluster s) where
    own_has : (net : ℕ) → IsOwnNet design clustering cluster net → has_wave s.waves net ≡ true
    own_has net own =
        has_wave-nets s.waves net ∙ ap (list_any (λ other. eqb other net)) of.nets
        ∙ filter_any (λ n. is_own clustering cluster n || has_input design clustering cluster n) 0 (nets_of design) net (omega arith) (omega (arith, own.there)) (or_left _ _ (eq-eqb _ _ own.own))

    pub all_have : HasAll s.waves (own_nets design clustering cluster)
    all_have =
        filter_all (is_own clustering cluster) (λ net. has_wave s.waves net ≡ true) 0 (nets_of design)
        (λ net there e. own_has net (record { there = omega (arith, there); own = eqb-true _ _ e }))

    pub sweep_goes_on : GoesOn design clustering cluster s.waves (stepped_waves design s.waves (own_nets design clustering cluster))
    sweep_goes_on = record {
      rises = λ net. sweep_rises design s.waves (own_nets design clustering cluster) all_have net;
      still = λ net reads.
          sweep_still design s.waves (own_nets design clustering cluster) all_have net
          (filter_all (is_own clustering cluster) (λ other. net ≡ other → ⊥) 0 (nets_of design) (λ other there e same. has_input-not_own design clustering cluster net reads (ap (cluster_of clustering) same ∙ eqb-true _ _ e)));
      further = λ tick net held within own.
          sweep_further s.waves (own_nets design clustering cluster) tick net all_have held own within
          (filter_any (is_own clustering cluster) 0 (nets_of design) net (omega arith) (omega (arith, own.there)) (eq-eqb _ _ own.own));
    }
