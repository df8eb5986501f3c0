-- A cluster has an input wave just of the nets that it reads, whatever number it is asked for.
use Rattle.std.proofs.Common.{◌≡◌, ℕ, zero, suc, ◌+◌, ◌<◌, ◌≤◌, Bool, true, false, ◌&&◌, ◌||◌, cond, eqb, List, [], ◌∷◌, ◌⊎◌, inl, inr, None, refl, sym, ◌∙◌, ap, arith}
use Rattle.std.specs.Prelude.{filter, option_map, is_some}
use Rattle.std.specs.List.{AllByRecursion, list_any, range_with_len}
use Rattle.std.proofs.lemmas.Bool.{and_parts, eqb-true, ne_eqb, cases_lt}
use Rattle.cmb_netlist.specs.Netlist.{driver_of, pins_of, IsNetlist}
use Rattle.cmb_design_model.specs.Design.{Design}
use Rattle.cmb_design_model.specs.Exact.{nets_of}
use Rattle.cmb_core_cluster.specs.Clustering.{Clustering, cluster_of, has_input, some_below, net_reads}
use Rattle.cmb_core_cluster.specs.Clusters.{Cluster, given_only, input_slot}
use Rattle.cmb_core_cluster.specs.Opened.{IsClusterOf, is_own, held_nets}
use Rattle.cmb_core_cluster.specs.Directory.{place_in}
use Rattle.cmb_core_cluster.proofs.ClusterLemmas.{slot_place}
use Rattle.cmb_core_cluster.proofs.OwnFacts.{input_read}
use Rattle.cmb_core_cluster.proofs.Everywhere.{all_weaker}
use Rattle.cmb_core_cluster.proofs.NetReads.{IsPin, pins-are}

-- a number beyond a range has no place
place_beyond : (p : ℕ → Bool) (a n x : ℕ) → a + n ≤ x → place_in (filter p (range_with_len a n)) x ≡ None
place_beyond p a zero x h = refl
place_beyond p a (suc n) x h = go (p a) (place_beyond p (a + 1) n x (omega arith))
  where
    go : (b : Bool) → place_in (filter p (range_with_len (a + 1) n)) x ≡ None → place_in (cond b (a ∷ filter p (range_with_len (a + 1) n)) (filter p (range_with_len (a + 1) n))) x ≡ None
    go false rest = rest
    go true rest =
        let other : eqb a x ≡ false = ne_eqb a x (λ same. absurd (omega arith)) in
        rw other (ap (λ o. option_map (λ place. suc place) o) rest)

-- ---- what is read is a net

pin_there : (nets : ℕ) (pins : List ℕ) (net : ℕ) → AllByRecursion (λ pin. pin < nets) pins → list_any (λ pin. eqb pin net) pins ≡ true → net < nets
pin_there nets [] net all e = absurd (cc)
pin_there nets (p ∷ pins) net all e = go (eqb p net) refl (λ h. pin_there nets pins net all.1 h) e
  where
    go : (b : Bool) → eqb p net ≡ b → (list_any (λ pin. eqb pin net) pins ≡ true → net < nets) → (b || list_any (λ pin. eqb pin net) pins) ≡ true → net < nets
    go true q rest h = let same : p ≡ net = eqb-true p net q in omega (arith, all.0)
    go false q rest h = rest h

some_below-is : (test : ℕ → Bool) (many : ℕ) → some_below test many ≡ true → (n : ℕ) × (test n ≡ true)
some_below-is test zero e = absurd (cc)
some_below-is test (suc many) e = go (test many) refl (λ h. some_below-is test many h) e
  where
    go : (b : Bool) → test many ≡ b → (some_below test many ≡ true → (n : ℕ) × (test n ≡ true)) → (b || some_below test many) ≡ true → (n : ℕ) × (test n ≡ true)
    go true q rest h = (many, q)
    go false q rest h = rest h

pub input_there : (design : Design) (clustering : Clustering) (cluster net : ℕ) → IsNetlist design.netlist → has_input design clustering cluster net ≡ true → net < nets_of design
unfolding has_input
input_there design clustering cluster net netlist e =
    let found : (reader : ℕ) × ((eqb (cluster_of clustering reader) cluster && net_reads design reader net) ≡ true) =
    some_below-is (λ reader. eqb (cluster_of clustering reader) cluster && net_reads design reader net) (nets_of design) (and_parts _ _ e).1
    in
    pin_there (nets_of design) (pins_of (driver_of design.netlist found.0)) net
    (all_weaker (IsPin design found.0) (λ pin. pin < nets_of design) (λ pin is. is.0) (pins_of (driver_of design.netlist found.0)) (pins-are design netlist found.0))
    (and_parts _ _ found.1).1

-- an input wave is there just where the cluster reads the net
pub input_home : (design : Design) (clustering : Clustering) (cluster : ℕ) (s : Cluster) → IsClusterOf design clustering cluster s → IsNetlist design.netlist → (net : ℕ) → is_some (input_slot s net) ≡ has_input design clustering cluster net
input_home design clustering cluster s of netlist net = go (cases_lt net (nets_of design))
  where
    unread : (b : Bool) → nets_of design ≤ net → has_input design clustering cluster net ≡ b → b ≡ false
    unread true h e = absurd (omega (arith, input_there design clustering cluster net netlist e))
    unread false h e = refl

    go : (net < nets_of design) ⊎ (nets_of design ≤ net) → is_some (input_slot s net) ≡ has_input design clustering cluster net
    go (inl there) = input_read design clustering cluster s of net there
    go (inr beyond) =
        let absent : place_in (held_nets design clustering cluster) net ≡ None = place_beyond (λ n. is_own clustering cluster n || has_input design clustering cluster n) 0 (nets_of design) net (omega arith) in
        ap (λ r. is_some (given_only s r)) (slot_place s.waves net ∙ ap (λ nets. place_in nets net) of.nets ∙ absent) ∙ sym (unread (has_input design clustering cluster net) beyond refl)
