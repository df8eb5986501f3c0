-- The nets that a design's cluster drives and those that it is given have their places there.
use Rattle.std.proofs.Common.{◌≡◌, ℕ, suc, ◌<◌, Bool, true, false, not, ◌||◌, cond, eqb, List, [], ◌∷◌, length, get_or, Option, Some, None, is_some, IsSome, refl, sym, ◌∙◌, ap, subst, arith}
use Rattle.std.specs.Prelude.{option_map}
use Rattle.std.proofs.lemmas.Bool.{eq-eqb, eqb-true, or_left, or_right}
use Rattle.cmb_design_model.specs.Design.{Design}
use Rattle.cmb_design_model.specs.Exact.{nets_of}
use Rattle.cmb_core_cluster.specs.Clustering.{Clustering, cluster_of, has_input}
use Rattle.cmb_core_cluster.specs.Clusters.{Cluster, IsDrivenHere, process_at, given_only, driven_only, input_slot}
use Rattle.cmb_core_cluster.specs.Opened.{IsProcessOf, IsClusterOf, IsOwnNet, is_own, held_nets}
use Rattle.cmb_core_cluster.specs.Rows.{slot_of, is_given}
use Rattle.cmb_core_cluster.specs.Directory.{place_in}
use Rattle.cmb_core_cluster.proofs.ClusterLemmas.{slot_place}
use Rattle.cmb_core_cluster.proofs.OpeningFacts.{filter_range_all, filter_range_place}
use Rattle.cmb_core_cluster.proofs.ReadFacts.{given-is}
use Rattle.cmb_core_cluster.proofs.NetByNet.{process_of}
use Rattle.cmb_core_cluster.proofs.Driven.{Drives}

-- a place is in the list, and its net is there
pub place_at : (nets : List ℕ) (net place : ℕ) → place_in nets net ≡ Some place → (place < length nets) × (get_or nets place 0 ≡ net)
place_at [] net place e = cc
place_at (n ∷ nets) net place e = go (eqb n net) refl (place_in nets net) refl (λ k q. place_at nets net k q) e
  where
    go : (b : Bool) → eqb n net ≡ b → (o : Option ℕ) → place_in nets net ≡ o → ((k : ℕ) → place_in nets net ≡ Some k → (k < length nets) × (get_or nets k 0 ≡ net)) → cond b (Some 0) (option_map (λ k. suc k) o) ≡ Some place → (place < suc (length nets)) × (get_or (n ∷ nets) place 0 ≡ net)
    go true same o q rest h = let z : place ≡ 0 = cc in rw z (omega arith, eqb-true n net same)
    go false same (Some k) q rest h =
        let z : place ≡ suc k = cc in
        let there : (k < length nets) × (get_or nets k 0 ≡ net) = rest k q in
        rw z (omega (arith, there.0), there.1)
    go false same None q rest h = cc

module _ (design : Design) (clustering : Clustering) (cluster : ℕ) (s : Cluster) (of : IsClusterOf design clustering cluster s) (net : ℕ) where
  abbrev held : List ℕ
  held = held_nets design clustering cluster

  placed : slot_of s.waves net ≡ place_in (held_nets design clustering cluster) net
  placed = slot_place s.waves net ∙ ap (λ ns. place_in ns net) of.nets

  -- a place of the net is one of the nets held, and has the net's process
  module _ (slot : ℕ) (here : slot_of s.waves net ≡ Some slot) where
    at : (slot < length (held_nets design clustering cluster)) × (get_or (held_nets design clustering cluster) slot 0 ≡ net)
    at = place_at (held_nets design clustering cluster) net slot (sym placed ∙ here)

    passes : (net < nets_of design) × ((is_own clustering cluster net || has_input design clustering cluster net) ≡ true)
    passes =
        let P : ℕ → Type 0 = λ n. (n < nets_of design) × ((is_own clustering cluster n || has_input design clustering cluster n) ≡ true) in
        subst P at.1 (filter_range_all (λ n. is_own clustering cluster n || has_input design clustering cluster n) (nets_of design) slot 0 at.0)

    process_is : IsProcessOf design clustering cluster net (process_at s slot)
    process_is =
        let P : ℕ → Type 0 = λ n. IsProcessOf design clustering cluster n (process_at s slot) in
        subst P at.1 (process_of design clustering cluster (held_nets design clustering cluster) s.processes slot _ of.processes at.0)

    pub given_here : is_given (process_at s slot).rule ≡ not (is_own clustering cluster net)
    given_here = given-is design clustering cluster net (process_at s slot) process_is

    pub drives_own : cluster_of clustering net ≡ cluster → Drives design s net slot
    drives_own own = record { horizon = of.horizon; here = here; process = process_is.own own }

  some_place : net < nets_of design → (is_own clustering cluster net || has_input design clustering cluster net) ≡ true → IsSome (slot_of s.waves net)
  some_place there held' =
      let P : Option ℕ → Type 0 = λ o. IsSome o in
      subst P (sym placed) (filter_range_place (λ n. is_own clustering cluster n || has_input design clustering cluster n) 0 (nets_of design) net (omega arith) (omega (arith, there)) held')

  own_test : IsOwnNet design clustering cluster net → is_own clustering cluster net ≡ true
  own_test own = eq-eqb _ _ own.own

  pub own_placed : IsOwnNet design clustering cluster net → IsSome (slot_of s.waves net)
  own_placed own = some_place own.there (or_left _ _ (own_test own))

  -- the cluster's own nets are among the nets held
  pub own_held : IsOwnNet design clustering cluster net → (place : ℕ) × (place < length (held_nets design clustering cluster)) × (get_or (held_nets design clustering cluster) place 0 ≡ net)
  own_held own = go (slot_of s.waves net) refl (own_placed own)
    where
      go : (o : Option ℕ) → slot_of s.waves net ≡ o → IsSome o → (place : ℕ) × (place < length (held_nets design clustering cluster)) × (get_or (held_nets design clustering cluster) place 0 ≡ net)
      go None e h = cc
      go (Some slot) e h = let there = at slot e in (slot, there.0, there.1)

  -- the cluster's own nets are driven there
  pub own_driven : IsOwnNet design clustering cluster net → IsDrivenHere s net
  own_driven own = go (slot_of s.waves net) refl (own_placed own)
    where
      go : (o : Option ℕ) → slot_of s.waves net ≡ o → IsSome o → IsSome (driven_only s o)
      go None e h = h
      go (Some slot) e h =
          let no : is_given (process_at s slot).rule ≡ false = given_here slot e ∙ ap not (own_test own) in
          rw no refl

  -- and the nets that these read are given to it
  pub input_read : net < nets_of design → is_some (input_slot s net) ≡ has_input design clustering cluster net
  unfolding has_input
  input_read there = go (slot_of s.waves net) refl (is_own clustering cluster net) refl (has_input design clustering cluster net) refl
    where
      none_not : (o : Option ℕ) → o ≡ None → IsSome o → ⊥
      none_not None e h = cc
      none_not (Some k) e h = cc

      none : (b : Bool) → (false || b) ≡ b
      none true = refl
      none false = refl

      go : (o : Option ℕ) → slot_of s.waves net ≡ o → (own : Bool) → is_own clustering cluster net ≡ own → (read : Bool) → has_input design clustering cluster net ≡ read → is_some (given_only s o) ≡ has_input design clustering cluster net
      go None e own a true b =
          let held' : (is_own clustering cluster net || has_input design clustering cluster net) ≡ true = or_right _ _ b in
          let some : IsSome (slot_of s.waves net) = some_place there held' in
          absurd (none_not (slot_of s.waves net) e some)
      go None e own a false b = sym b
      go (Some slot) e true a read b =
          let no : is_given (process_at s slot).rule ≡ false = given_here slot e ∙ ap not a in
          rw (no, a) refl
      go (Some slot) e false a read b =
          let yes : is_given (process_at s slot).rule ≡ true = given_here slot e ∙ ap not a in
          let reads : has_input design clustering cluster net ≡ true = sym (none (has_input design clustering cluster net)) ∙ ap (λ own. own || has_input design clustering cluster net) (sym a) ∙ (passes slot e).1 in
          rw yes (sym reads)
