-- Which nets a process reads, and which clusters are given them.
use Rattle.std.proofs.Common.{◌≡◌, ℕ, zero, suc, ◌<◌, Bool, true, false, not, ◌||◌, eqb, List, [], ◌∷◌, ◌⊎◌, inl, inr, refl, ap, sym, ◌∙◌, arith}
use Rattle.std.specs.List.{AllByRecursion, list_any}
use Rattle.std.proofs.lemmas.List.Elements.{recursion_from_All}
use Rattle.std.proofs.lemmas.Bool.{eq-eqb, ne_eqb, cases_eq, or_left, or_right, and_from, and_parts, not_from_false}
use Rattle.cmb_netlist.proofs.Wired.{pins-below}
use Rattle.cmb_netlist.specs.Netlist.{driver_of, pins_of, IsNetlist}
use Rattle.cmb_design_model.specs.Design.{Design}
use Rattle.cmb_design_model.specs.Exact.{nets_of}
use Rattle.cmb_core_cluster.specs.Clustering.{Clustering, IsClustering, cluster_of, has_input, some_below, net_reads}
use Rattle.cmb_core_cluster.proofs.Everywhere.{all_weaker, all_both}

pub some_below-from : (test : ℕ → Bool) (many n : ℕ) → n < many → test n ≡ true → some_below test many ≡ true
some_below-from test zero n h e = absurd (omega arith)
some_below-from test (suc many) n h e = go (cases_eq n many) (λ less. some_below-from test many n less e)
  where
    go : (n ≡ many) ⊎ (n ≡ many → ⊥) → (n < many → some_below test many ≡ true) → (test many || some_below test many) ≡ true
    go (inl same) rest = or_left (test many) (some_below test many) (ap test (sym same) ∙ e)
    go (inr ne) rest = or_right (test many) (some_below test many) (rest (omega arith))

pub has_input-from : (design : Design) (clustering : Clustering) (reader net : ℕ) → reader < nets_of design → net_reads design reader net ≡ true → (cluster_of clustering net ≡ cluster_of clustering reader → ⊥) → has_input design clustering (cluster_of clustering reader) net ≡ true
unfolding has_input
has_input-from design clustering reader net there reads apart =
    and_from _ _
    (not_from_false _ (ne_eqb (cluster_of clustering net) (cluster_of clustering reader) apart))
    (some_below-from _ (nets_of design) reader there (and_from _ _ (eq-eqb (cluster_of clustering reader) (cluster_of clustering reader) refl) reads))

pub has_input-not_own : (design : Design) (clustering : Clustering) (cluster net : ℕ) → has_input design clustering cluster net ≡ true → cluster_of clustering net ≡ cluster → ⊥
unfolding has_input
has_input-not_own design clustering cluster net reads same = go (eqb (cluster_of clustering net) cluster) (eq-eqb _ _ same) (and_parts _ _ reads).0
  where
    go : (b : Bool) → b ≡ true → not b ≡ true → ⊥
    go true e f = cc
    go false e f = cc

-- each pin is among the pins
each_among : (pins : List ℕ) → AllByRecursion (λ net. list_any (λ pin. eqb pin net) pins ≡ true) pins
each_among [] = tt
each_among (net ∷ pins) = (
  or_left _ _ (eq-eqb net net refl),
  all_weaker (λ other. list_any (λ pin. eqb pin other) pins ≡ true) (λ other. list_any (λ pin. eqb pin other) (net ∷ pins) ≡ true) (λ other among. or_right (eqb net other) _ among) pins (each_among pins),
)

abbrev pub IsPin : Design → ℕ → ℕ → Type 0
IsPin design reader net = (net < nets_of design) × (net_reads design reader net ≡ true)

pub pins-are : (design : Design) → IsNetlist design.netlist → (reader : ℕ) → AllByRecursion (IsPin design reader) (pins_of (driver_of design.netlist reader))
pins-are design netlist reader =
    all_both (λ net. net < nets_of design) (λ net. net_reads design reader net ≡ true) (pins_of (driver_of design.netlist reader))
    (recursion_from_All (λ net. net < nets_of design) (pins_of (driver_of design.netlist reader)) (pins-below design.netlist netlist reader))
    (each_among (pins_of (driver_of design.netlist reader)))

-- each net's cluster is there
pub cluster-there : (design : Design) (clustering : Clustering) → IsClustering (nets_of design) clustering → (net : ℕ) → net < nets_of design → cluster_of clustering net < clustering.clusters
cluster-there design clustering assigned net there = assigned.there net 0 (omega (arith, assigned.each))
