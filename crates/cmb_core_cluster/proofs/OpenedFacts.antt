-- A newly opened cluster is one of its design.
use Rattle.std.proofs.Common.{◌≡◌, ℕ, zero, suc, ◌+◌, ◌<◌, ◌≤◌, Bool, true, false, not, ◌&&◌, ◌||◌, cond, eqb, List, [], ◌∷◌, length, get_or, map, Option, Some, None, IsSome, refl, sym, ◌∙◌, ap, subst, arith}
use Rattle.std.specs.Prelude.{All, filter, option_map}
use Rattle.std.specs.List.{AllByRecursion, range_with_len}
use Rattle.std.proofs.lemmas.Bool.{eq-eqb, eqb-true, and_from}
use Rattle.std.proofs.lemmas.List.Elements.{All-from_recursion}
use Rattle.cmb_wave.specs.Wave.{new_wave}
use Rattle.cmb_netlist.specs.Netlist.{driver_of, pins_of, IsNetlist}
use Rattle.cmb_design_model.specs.Design.{Design}
use Rattle.cmb_design_model.specs.Exact.{nets_of}
use Rattle.cmb_core_cluster.specs.declared.process.ProcessPin.{ProcessPin}
use Rattle.cmb_core_cluster.specs.declared.process.ProcessRule.TheVariants.{Given}
use Rattle.cmb_core_cluster.specs.Clustering.{Clustering, cluster_of, has_input, some_below, net_reads}
use Rattle.cmb_core_cluster.specs.Clusters.{IsSound, wave_nets}
use Rattle.cmb_core_cluster.specs.Opened.{is_own, held_nets}
use Rattle.cmb_core_cluster.specs.Inner.Opening.{AreRead, ArePlaced, AreAt, AreWhole, StartsOn, AllStartOn}
use Rattle.cmb_core_cluster.specs.Rows.{Process, IsReadyFor}
use Rattle.cmb_core_cluster.specs.Step.{wave_at}
use Rattle.cmb_core_cluster.specs.Directory.{place_in}
use Rattle.cmb_core_cluster.proofs.ClusterLemmas.{slot_place}
use Rattle.cmb_core_cluster.proofs.OpeningFacts.{filter_range_same, filter_range_all, filter_range_place}
use Rattle.cmb_core_cluster.proofs.NetReads.{IsPin, pins-are, some_below-from}

-- the cluster's own nets and those that it reads, by the marks
own_or : (a b : Bool) → (a || b) ≡ (a || (not a && b))
own_or true b = refl
own_or false b = refl

pub held_is : (design : Design) (clustering : Clustering) (cluster : ℕ) (read : List Bool) → AreRead design clustering cluster (nets_of design) read
    → filter (λ net. eqb (cluster_of clustering net) cluster || get_or read net false) (range_with_len 0 (length read)) ≡ held_nets design clustering cluster
unfolding has_input
held_is design clustering cluster read are =
    ap (λ n. filter (λ net. eqb (cluster_of clustering net) cluster || get_or read net false) (range_with_len 0 n)) are.count
    ∙ filter_range_same _ (λ net. is_own clustering cluster net || has_input design clustering cluster net) 0 (nets_of design) (λ net low high.
    ap (λ b. eqb (cluster_of clustering net) cluster || b) (are.each net (omega arith)) ∙ own_or (eqb (cluster_of clustering net) cluster) _)

pub held_below : (design : Design) (clustering : Clustering) (cluster : ℕ) → All (λ net. net < nets_of design) (held_nets design clustering cluster)
held_below design clustering cluster = λ k d h. (filter_range_all (λ net. is_own clustering cluster net || has_input design clustering cluster net) (nets_of design) k d h).0

filter_length : (p : ℕ → Bool) (a n : ℕ) → length (filter p (range_with_len a n)) ≤ n
filter_length p a zero = omega arith
filter_length p a (suc n) = go (p a) (filter_length p (a + 1) n)
  where
    go : (b : Bool) → length (filter p (range_with_len (a + 1) n)) ≤ n → length (cond b (a ∷ filter p (range_with_len (a + 1) n)) (filter p (range_with_len (a + 1) n))) ≤ suc n
    go true h = omega arith
    go false h = omega arith

pub held_length : (design : Design) (clustering : Clustering) (cluster : ℕ) → length (held_nets design clustering cluster) ≤ nets_of design
held_length design clustering cluster = filter_length _ 0 (nets_of design)

-- what an own net reads is held
pin_held : (design : Design) (clustering : Clustering) (cluster net pin : ℕ) → net < nets_of design → cluster_of clustering net ≡ cluster → net_reads design net pin ≡ true
    → (is_own clustering cluster pin || has_input design clustering cluster pin) ≡ true
unfolding has_input
pin_held design clustering cluster net pin h own reads = go (eqb (cluster_of clustering pin) cluster)
  where
    reader : some_below (λ reader. eqb (cluster_of clustering reader) cluster && net_reads design reader pin) (nets_of design) ≡ true
    reader = some_below-from (λ reader. eqb (cluster_of clustering reader) cluster && net_reads design reader pin) (nets_of design) net h (and_from _ _ (eq-eqb _ _ own) reads)

    go : (b : Bool) → (b || (not b && some_below (λ reader. eqb (cluster_of clustering reader) cluster && net_reads design reader pin) (nets_of design))) ≡ true
    go true = refl
    go false = reader

pub pins_placed : (design : Design) (clustering : Clustering) (cluster : ℕ) (places : List (Option ℕ)) → IsNetlist design.netlist
    → ((net : ℕ) → get_or places net None ≡ place_in (held_nets design clustering cluster) net)
    → (net : ℕ) → net < nets_of design → cluster_of clustering net ≡ cluster → ArePlaced places (pins_of (driver_of design.netlist net))
pins_placed design clustering cluster places netlist at net h own = go (pins_of (driver_of design.netlist net)) (pins-are design netlist net)
  where
    go : (pins : List ℕ) → AllByRecursion (IsPin design net) pins → ArePlaced places pins
    go [] all = tt
    go (pin ∷ pins) all =
        let held : (is_own clustering cluster pin || has_input design clustering cluster pin) ≡ true = pin_held design clustering cluster net pin h own all.0.1 in
        let below : pin < 0 + nets_of design = omega (arith, all.0.0) in
        let here : IsSome (place_in (held_nets design clustering cluster) pin) = filter_range_place (λ n. is_own clustering cluster n || has_input design clustering cluster n) 0 (nets_of design) pin (omega arith) below held in
        (subst (λ o. IsSome o) (sym (at pin)) here, go pins all.1)

-- the places of operands are among those of the processes
place_below : (nets : List ℕ) (net place : ℕ) → place_in nets net ≡ Some place → place < length nets
place_below [] net place e = cc
place_below (n ∷ nets) net place e = go (eqb n net) (place_in nets net) refl (λ k q. place_below nets net k q) e
  where
    go : (b : Bool) (o : Option ℕ) → place_in nets net ≡ o → ((k : ℕ) → place_in nets net ≡ Some k → k < length nets) → cond b (Some 0) (option_map (λ k. suc k) o) ≡ Some place → place < suc (length nets)
    go true o q rest h = let z : place ≡ 0 = cc in omega arith
    go false (Some k) q rest h = let z : place ≡ suc k = cc in let less : k < length nets = rest k q in omega arith
    go false None q rest h = cc

at_below : (places : List (Option ℕ)) (nets : List ℕ) → ((net : ℕ) → get_or places net None ≡ place_in nets net) → (os : List ProcessPin) → AreAt places os → AllByRecursion (λ o. o.slot < length nets) os
at_below places nets at [] a = tt
at_below places nets at (o ∷ os) a = (place_below nets o.net o.slot (sym (at o.net) ∙ a.0), at_below places nets at os a.1)

pub slots_below : (places : List (Option ℕ)) (nets : List ℕ) → ((net : ℕ) → get_or places net None ≡ place_in nets net) → (processes : List Process) → AllStartOn places processes
    → AllByRecursion (λ process. All (λ o. o.slot < length nets) process.operands) processes
slots_below places nets at [] a = tt
slots_below places nets at (p ∷ processes) a = (All-from_recursion (λ o. o.slot < length nets) p.operands (at_below places nets at p.operands a.0.at), slots_below places nets at processes a.1)

-- new waves
pub new_nets : (nets : List ℕ) → wave_nets (map new_wave nets) ≡ nets
new_nets [] = refl
new_nets (n ∷ nets) = ap (λ ns. n ∷ ns) (new_nets nets)

pub new_here : (nets : List ℕ) (net : ℕ) → wave_at (map new_wave nets) net ≡ new_wave net
new_here [] net = refl
new_here (n ∷ nets) net = go (eqb n net) refl (new_here nets net)
  where
    go : (b : Bool) → eqb n net ≡ b → wave_at (map new_wave nets) net ≡ new_wave net → cond b (new_wave n) (wave_at (map new_wave nets) net) ≡ new_wave net
    go true e rest = ap new_wave (eqb-true _ _ e)
    go false e rest = rest

new_at : (nets : List ℕ) (i : ℕ) → ((get_or (map new_wave nets) i (new_wave 0)).base ≡ 0) × ((get_or (map new_wave nets) i (new_wave 0)).clock ≡ 0)
new_at [] i = (refl, refl)
new_at (n ∷ nets) zero = (refl, refl)
new_at (n ∷ nets) (suc i) = new_at nets i

length_new : (nets : List ℕ) → length (map new_wave nets) ≡ length nets
length_new [] = refl
length_new (n ∷ nets) = ap (λ k. suc k) (length_new nets)

starts_at : (places : List (Option ℕ)) (processes : List Process) (i : ℕ) (d : Process) → AllStartOn places processes → i < length processes → StartsOn places (get_or processes i d)
starts_at places [] i d a h = absurd (omega arith)
starts_at places (p ∷ processes) zero d a h = a.0
starts_at places (p ∷ processes) (suc i) d a h = starts_at places processes i d a.1 (omega arith)

pub opened_sound : (horizon : ℕ) (places : List (Option ℕ)) (nets : List ℕ) (processes : List Process) → ((net : ℕ) → get_or places net None ≡ place_in nets net) → AllStartOn places processes → length processes ≡ length nets
    → IsSound (record { horizon = horizon; processes = processes; waves = map new_wave nets })
opened_sound horizon places nets processes at starts count = record {
  paired = length_new nets ∙ sym count;
  whole = λ i h driven. (new_at nets i).0;
  ready = λ i h.
      let none : Process = record { rule = Given; operands = []; stimulus = [] } in
      let s : StartsOn places (get_or processes i none) = starts_at places processes i none starts h in
      let P : ℕ → Type 0 = λ clock. IsReadyFor (map new_wave nets) clock (get_or processes i none).rule (get_or processes i none).operands (get_or processes i none).stimulus in
      subst P (sym (new_at nets i).1) (s.ready (map new_wave nets) whole);
}
  where
    whole : AreWhole places (map new_wave nets)
    whole = record {
      slots = λ net. slot_place (map new_wave nets) net ∙ ap (λ ns. place_in ns net) (new_nets nets) ∙ sym (at net);
      bases = λ net. ap (λ w. w.base) (new_here nets net);
    }
