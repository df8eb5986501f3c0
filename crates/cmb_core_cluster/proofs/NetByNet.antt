-- Steps of a cluster's nets in order, wave by wave.
use Rattle.std.proofs.Common.{◌≡◌, ℕ, zero, suc, ◌+◌, ◌<◌, ◌≤◌, Bool, true, false, ◌||◌, cond, eqb, ltb, leb, List, [], ◌∷◌, ◌++◌, ◌⊎◌, inl, inr, length, get_or, take, drop, Some, Result, Ok, Err, OnErr, refl, sym, ◌∙◌, ap, subst, arith}
use Rattle.std.specs.Prelude.{filter, option_map}
use Rattle.std.specs.List.{range_with_len}
use Rattle.std.proofs.Math.Bool.{or-false, or_assoc}
use Rattle.std.proofs.lemmas.Bool.{eq-eqb, ne_eqb, cases_eq, le-leb, le-ltb}
use Rattle.std.proofs.lemmas.List.{append-nil, take-append-drop, take_at, take_all, get_or-map, length-map}
use Rattle.std.proofs.lemmas.List.Elements.{filter_more, filter-append}
use Rattle.cmb_wave.specs.Waveform.{last_level, level_at, level_before}
use Rattle.cmb_wave.specs.Wave.{Wave, new_wave}
use Rattle.cmb_design_model.specs.Design.{Design}
use Rattle.cmb_design_model.specs.Exact.{nets_of}
use Rattle.cmb_core_cluster.specs.declared.process.ProcessRule.TheVariants.{Given}
use Rattle.cmb_core_cluster.specs.Clustering.{Clustering, cluster_of, has_input}
use Rattle.cmb_core_cluster.specs.Clusters.{Cluster, IsSameButWaves, slot_wave, process_at, step_waves}
use Rattle.cmb_core_cluster.specs.Inner.Spans.{new_waves_at, reach_at}
use Rattle.cmb_core_cluster.specs.Opened.{IsProcessOf, AreProcessesOf, IsClusterOf, is_own, own_nets, held_nets}
use Rattle.cmb_core_cluster.specs.Rows.{Process, slot_of}
use Rattle.cmb_core_cluster.specs.Step.{wave_at, step_reach}
use Rattle.cmb_core_cluster.specs.Sweep.{stepped_waves, some_rises}
use Rattle.cmb_core_cluster.specs.Directory.{place_in}
use Rattle.cmb_core_cluster.proofs.ClusterLemmas.{slot_place}
use Rattle.cmb_core_cluster.proofs.Driven.{Drives, step_waves_are, reach_is, wave_here}
use Rattle.cmb_core_cluster.proofs.ReadFacts.{held_own}

stepped_more : (design : Design) (waves : List Wave) (nets : List ℕ) (net : ℕ) → stepped_waves design waves (nets ++ net ∷ []) ≡ step_waves design (stepped_waves design waves nets) (wave_at (stepped_waves design waves nets) net)
stepped_more design waves [] net = refl
stepped_more design waves (n ∷ nets) net = stepped_more design (step_waves design waves (wave_at waves n)) nets net

-- a step of the net raises its clock
abbrev pub rises_at : Design → List Wave → ℕ → Bool
rises_at design waves net = ltb (wave_at waves net).clock (step_reach design waves (wave_at waves net).net)

pub rises_more : (design : Design) (waves : List Wave) (nets : List ℕ) (net : ℕ) → some_rises design waves (nets ++ net ∷ []) ≡ (some_rises design waves nets || rises_at design (stepped_waves design waves nets) net)
rises_more design waves [] net = or-false (rises_at design waves net)
rises_more design waves (n ∷ nets) net =
    ap (λ b. rises_at design waves n || b) (rises_more design (step_waves design waves (wave_at waves n)) nets net)
    ∙ sym (or_assoc (rises_at design waves n) (some_rises design (step_waves design waves (wave_at waves n)) nets) _)

-- ---- each number that passes stands in its place

filter_low : (p : ℕ → Bool) (a n j : ℕ) → j < length (filter p (range_with_len a n)) → a ≤ get_or (filter p (range_with_len a n)) j 0
filter_low p a zero j h = absurd (omega arith)
filter_low p a (suc n) j h = go (p a) j h (λ k l. filter_low p (a + 1) n k l)
  where
    go : (b : Bool) (j : ℕ) → j < length (cond b (a ∷ filter p (range_with_len (a + 1) n)) (filter p (range_with_len (a + 1) n))) → ((k : ℕ) → k < length (filter p (range_with_len (a + 1) n)) → a + 1 ≤ get_or (filter p (range_with_len (a + 1) n)) k 0) → a ≤ get_or (cond b (a ∷ filter p (range_with_len (a + 1) n)) (filter p (range_with_len (a + 1) n))) j 0
    go true zero l rest = omega arith
    go true (suc k) l rest = omega (arith, rest k (omega arith))
    go false k l rest = omega (arith, rest k l)

filter_index : (p : ℕ → Bool) (a n i : ℕ) → i < length (filter p (range_with_len a n)) → place_in (filter p (range_with_len a n)) (get_or (filter p (range_with_len a n)) i 0) ≡ Some i
filter_index p a zero i h = absurd (omega arith)
filter_index p a (suc n) i h = go (p a) i h (λ k l. filter_index p (a + 1) n k l) (λ k l. filter_low p (a + 1) n k l)
  where
    go : (b : Bool) (j : ℕ) → j < length (cond b (a ∷ filter p (range_with_len (a + 1) n)) (filter p (range_with_len (a + 1) n)))
        → ((k : ℕ) → k < length (filter p (range_with_len (a + 1) n)) → place_in (filter p (range_with_len (a + 1) n)) (get_or (filter p (range_with_len (a + 1) n)) k 0) ≡ Some k)
        → ((k : ℕ) → k < length (filter p (range_with_len (a + 1) n)) → a + 1 ≤ get_or (filter p (range_with_len (a + 1) n)) k 0)
        → place_in (cond b (a ∷ filter p (range_with_len (a + 1) n)) (filter p (range_with_len (a + 1) n))) (get_or (cond b (a ∷ filter p (range_with_len (a + 1) n)) (filter p (range_with_len (a + 1) n))) j 0) ≡ Some j
    go true zero l rest low = let e : eqb a a ≡ true = eq-eqb a a refl in rw e refl
    go true (suc k) l rest low =
        let e : eqb a (get_or (filter p (range_with_len (a + 1) n)) k 0) ≡ false = ne_eqb _ _ (λ q. absurd (omega (arith, low k (omega arith), q))) in
        rw e (ap (λ o. option_map (λ place. suc place) o) (rest k (omega arith)))
    go false k l rest low = rest k l

pub process_of : (design : Design) (clustering : Clustering) (cluster : ℕ) (nets : List ℕ) (processes : List Process) (i : ℕ) (d : Process) → AreProcessesOf design clustering cluster nets processes → i < length nets
    → IsProcessOf design clustering cluster (get_or nets i 0) (get_or processes i d)
process_of design clustering cluster [] processes i d a h = absurd (omega arith)
process_of design clustering cluster (net ∷ nets) [] i d a h = absurd a
process_of design clustering cluster (net ∷ nets) (p ∷ processes) zero d a h = a.0
process_of design clustering cluster (net ∷ nets) (p ∷ processes) (suc i) d a h = process_of design clustering cluster nets processes i d a.1 (omega arith)

pub still_of : (design : Design) (clustering : Clustering) (cluster : ℕ) (s t : Cluster) → IsSameButWaves s t → IsClusterOf design clustering cluster s → IsClusterOf design clustering cluster t
still_of design clustering cluster s t same of =
    let P : List Process → Type 0 = λ ps. AreProcessesOf design clustering cluster (held_nets design clustering cluster) ps in
    record { horizon = same.horizon ∙ of.horizon; nets = same.nets ∙ of.nets; processes = subst P (sym same.processes) of.processes }

module _ (design : Design) (clustering : Clustering) (cluster : ℕ) (s : Cluster) (of : IsClusterOf design clustering cluster s) (i : ℕ) (h : i < length s.waves) where
  held : List ℕ
  held = held_nets design clustering cluster

  pub net_held : (slot_wave s i).net ≡ get_or (held_nets design clustering cluster) i 0
  net_held = sym (get_or-map (λ w. w.net) s.waves i (new_wave 0) 0 h) ∙ ap (λ ns. get_or ns i 0) of.nets

  pub long : i < length (held_nets design clustering cluster)
  long = omega (arith, length-map s.waves (λ w. w.net), ap length of.nets)

  pub process_here : IsProcessOf design clustering cluster (get_or (held_nets design clustering cluster) i 0) (process_at s i)
  process_here = process_of design clustering cluster (held_nets design clustering cluster) s.processes i _ of.processes long

  pub slot_here : slot_of s.waves (get_or (held_nets design clustering cluster) i 0) ≡ Some i
  slot_here =
      slot_place s.waves (get_or (held_nets design clustering cluster) i 0) ∙ ap (λ ns. place_in ns (get_or (held_nets design clustering cluster) i 0)) of.nets
      ∙ filter_index (λ net. is_own clustering cluster net || has_input design clustering cluster net) 0 (nets_of design) i long

  pub drives_here : cluster_of clustering (get_or (held_nets design clustering cluster) i 0) ≡ cluster → Drives design s (get_or (held_nets design clustering cluster) i 0) i
  drives_here own = record { horizon = of.horizon; here = slot_here; process = process_here.own own }

  -- a given wave goes on by no step
  pub given_reach : (cluster_of clustering (get_or (held_nets design clustering cluster) i 0) ≡ cluster → ⊥) → reach_at s i ≡ 0
  given_reach other = let e : (process_at s i).rule ≡ Given = process_here.given other in rw e refl

  module _ (before : (slot_wave s i).clock < reach_at s i → last_level (slot_wave s i).kept (slot_wave s i).changes ≡ level_before (level_at (slot_wave s i).kept (slot_wave s i).changes) (slot_wave s i).clock) where
    abbrev own_before : List ℕ
    own_before = filter (is_own clustering cluster) (take i (held_nets design clustering cluster))

    abbrev own_after : List ℕ
    own_after = filter (is_own clustering cluster) (take (i + 1) (held_nets design clustering cluster))

    more : own_after ≡ own_before ++ cond (is_own clustering cluster (get_or (held_nets design clustering cluster) i 0)) (get_or (held_nets design clustering cluster) i 0 ∷ []) []
    more = filter_more (is_own clustering cluster) (held_nets design clustering cluster) i 0 long

    pub swept_waves : (start : List Wave) → s.waves ≡ stepped_waves design start own_before → new_waves_at s i ≡ stepped_waves design start own_after
    swept_waves start e = go (cases_eq (cluster_of clustering (get_or (held_nets design clustering cluster) i 0)) cluster)
      where
        go : (cluster_of clustering (get_or (held_nets design clustering cluster) i 0) ≡ cluster) ⊎ (cluster_of clustering (get_or (held_nets design clustering cluster) i 0) ≡ cluster → ⊥) → new_waves_at s i ≡ stepped_waves design start own_after
        go (inl own) =
            let test : is_own clustering cluster (get_or (held_nets design clustering cluster) i 0) ≡ true = eq-eqb _ _ own in
            let list : own_after ≡ own_before ++ get_or (held_nets design clustering cluster) i 0 ∷ [] = more ∙ ap (λ b. own_before ++ cond b (get_or (held_nets design clustering cluster) i 0 ∷ []) []) test in
            step_waves_are design s (get_or (held_nets design clustering cluster) i 0) i (drives_here own) before
            ∙ ap (λ ws. step_waves design ws (wave_at ws (get_or (held_nets design clustering cluster) i 0))) e
            ∙ sym (ap (stepped_waves design start) list ∙ stepped_more design start own_before (get_or (held_nets design clustering cluster) i 0))
        go (inr other) =
            let test : is_own clustering cluster (get_or (held_nets design clustering cluster) i 0) ≡ false = ne_eqb _ _ other in
            let list : own_after ≡ own_before = more ∙ ap (λ b. own_before ++ cond b (get_or (held_nets design clustering cluster) i 0 ∷ []) []) test ∙ append-nil own_before in
            let still : leb (reach_at s i) (slot_wave s i).clock ≡ true = le-leb _ _ (omega (arith, given_reach other)) in
            rw still (e ∙ sym (ap (stepped_waves design start) list))

    pub swept_rises : (start : List Wave) (rose : Bool) → s.waves ≡ stepped_waves design start own_before → rose ≡ some_rises design start own_before → (rose || ltb (slot_wave s i).clock (reach_at s i)) ≡ some_rises design start own_after
    swept_rises start rose e r = go (cases_eq (cluster_of clustering (get_or (held_nets design clustering cluster) i 0)) cluster)
      where
        go : (cluster_of clustering (get_or (held_nets design clustering cluster) i 0) ≡ cluster) ⊎ (cluster_of clustering (get_or (held_nets design clustering cluster) i 0) ≡ cluster → ⊥) → (rose || ltb (slot_wave s i).clock (reach_at s i)) ≡ some_rises design start own_after
        go (inl own) =
            let net : ℕ = get_or (held_nets design clustering cluster) i 0 in
            let test : is_own clustering cluster net ≡ true = eq-eqb _ _ own in
            let list : own_after ≡ own_before ++ net ∷ [] = more ∙ ap (λ b. own_before ++ cond b (net ∷ []) []) test in
            let wave : slot_wave s i ≡ wave_at s.waves net = wave_here design s net i (drives_here own) before in
            let far : reach_at s i ≡ step_reach design s.waves (slot_wave s i).net = reach_is design s net i (drives_here own) before in
            let here : ltb (slot_wave s i).clock (reach_at s i) ≡ rises_at design s.waves net = ap (λ t. ltb (slot_wave s i).clock t) far ∙ ap (λ w. ltb w.clock (step_reach design s.waves w.net)) wave in
            ap (λ b. b || ltb (slot_wave s i).clock (reach_at s i)) r ∙ ap (λ b. some_rises design start own_before || b) (here ∙ ap (λ ws. rises_at design ws net) e)
            ∙ sym (ap (some_rises design start) list ∙ rises_more design start own_before net)
        go (inr other) =
            let test : is_own clustering cluster (get_or (held_nets design clustering cluster) i 0) ≡ false = ne_eqb _ _ other in
            let list : own_after ≡ own_before = more ∙ ap (λ b. own_before ++ cond b (get_or (held_nets design clustering cluster) i 0 ∷ []) []) test ∙ append-nil own_before in
            let still : ltb (slot_wave s i).clock (reach_at s i) ≡ false = le-ltb _ _ (omega (arith, given_reach other)) in
            rw still (or-false rose ∙ r ∙ sym (ap (some_rises design start) list))

-- all of them, and the first few
pub all_own : (design : Design) (clustering : Clustering) (cluster n : ℕ) → length (held_nets design clustering cluster) ≤ n → filter (is_own clustering cluster) (take n (held_nets design clustering cluster)) ≡ own_nets design clustering cluster
all_own design clustering cluster n h =
    ap (filter (is_own clustering cluster)) (take_all n (held_nets design clustering cluster) h) ∙ held_own design clustering cluster

pub first_own : (design : Design) (clustering : Clustering) (cluster n : ℕ)
    → filter (is_own clustering cluster) (take n (held_nets design clustering cluster)) ≡ take (length (filter (is_own clustering cluster) (take n (held_nets design clustering cluster)))) (own_nets design clustering cluster)
first_own design clustering cluster n =
    let some : List ℕ = filter (is_own clustering cluster) (take n (held_nets design clustering cluster)) in
    let rest : List ℕ = filter (is_own clustering cluster) (drop n (held_nets design clustering cluster)) in
    let split : some ++ rest ≡ own_nets design clustering cluster =
    sym (filter-append (is_own clustering cluster) (take n (held_nets design clustering cluster)) (drop n (held_nets design clustering cluster)))
    ∙ ap (filter (is_own clustering cluster)) (take-append-drop n (held_nets design clustering cluster)) ∙ held_own design clustering cluster
    in
    sym (take_at some rest (length some) refl) ∙ ap (take (length some)) split

pub same_again : (r s t : Cluster) → IsSameButWaves r s → IsSameButWaves s t → IsSameButWaves r t
same_again r s t a b = record { horizon = b.horizon ∙ a.horizon; processes = b.processes ∙ a.processes; nets = b.nets ∙ a.nets }

pub same_length : (s t : Cluster) → IsSameButWaves s t → length t.waves ≡ length s.waves
same_length s t a = sym (length-map t.waves (λ w. w.net)) ∙ ap length a.nets ∙ length-map s.waves (λ w. w.net)

pub held_as_waves : (design : Design) (clustering : Clustering) (cluster : ℕ) (s : Cluster) → IsClusterOf design clustering cluster s → length (held_nets design clustering cluster) ≡ length s.waves
held_as_waves design clustering cluster s of = sym (ap length of.nets) ∙ length-map s.waves (λ w. w.net)

-- what stands anyhow stands where a call was refused
pub at_err : {A E : Type 0} (r : Result A E) (P : Type 0) → P → OnErr r P
at_err (Ok x) P h = tt
at_err (Err e) P h = h
