-- The rows' probes, by rising tick.
use Rattle.std.proofs.Common.{◌≡◌, ℕ, suc, ◌+◌, ◌<◌, ◌≤◌, List, [], ◌∷◌, ◌++◌, length, length-append, get_or, ◌⊎◌, inl, inr, refl, sym, ap, subst, ◌∙◌, arith}
use Rattle.std.specs.Prelude.{All, Contains}
use Rattle.std.specs.List.Sorted.{IsNonDecreasingBy, IsPermutation}
use Rattle.std.proofs.lemmas.Bool.{cases_lt}
use Rattle.std.proofs.lemmas.List.{get_or_append_left, get_or_default}
use Rattle.std.proofs.lemmas.List.Elements.{Contains-get_or}
use Rattle.std.proofs.lemmas.List.Sorted.{All-permutation, Contains-permutation}
use Rattle.std.proofs.Math.Seq.{get_or-append_seam}
use Rattle.cmb_wave.specs.declared.level.Level.TheVariants.{X}
use Rattle.cmb_design_model.specs.declared.expected.Expected.{Expected}
use Rattle.cmb_expect.specs.declared.probe.Probe.{Probe}
use Rattle.cmb_expect.specs.Inner.Probes.{AreLawful, AreProbes, AreRising, IsLawful, IsProbe, probe_of}

-- the probes of the first rows, in their order
pub record ArePlaced (rows : List Expected) (probes : List Probe) (count : ℕ) : Type 0 where
  pub long : length probes ≡ count
  pub each : (i : ℕ) (d : Probe) (e : Expected) → i < count → get_or probes i d ≡ probe_of (get_or rows i e) i

pub none_placed : (rows : List Expected) → ArePlaced rows [] 0
none_placed rows = record { long = refl; each = λ i d e below. absurd (omega (arith, below)) }

pub one_placed : (rows : List Expected) (probes : List Probe) (count : ℕ) (row : Expected) (new : Probe) → ArePlaced rows probes count → new ≡ probe_of row count → count < length rows
    → row ≡ get_or rows count row → ArePlaced rows (probes ++ new ∷ []) (count + 1)
one_placed rows probes count row new so_far is within at = record {
  long = length-append probes (new ∷ []) ∙ (let e : length probes + 1 ≡ count + 1 = omega (arith, so_far.long) in e);
  each = λ i d e below. go i d e (cases_lt i count) below;
}
  where
    same_row : (e : Expected) → row ≡ get_or rows count e
    same_row e = at ∙ get_or_default rows count row e within

    go : (i : ℕ) (d : Probe) (e : Expected) → (i < count) ⊎ (count ≤ i) → i < count + 1 → get_or (probes ++ new ∷ []) i d ≡ probe_of (get_or rows i e) i
    go i d e (inl early) below = get_or_append_left probes (new ∷ []) d i (omega (arith, early, so_far.long)) ∙ so_far.each i d e early
    go i d e (inr late) below =
        let same : count ≡ i = omega (arith, late, below) in
        subst (λ (k : ℕ). get_or (probes ++ new ∷ []) k d ≡ probe_of (get_or rows k e) k) same
        (ap (λ (k : ℕ). get_or (probes ++ new ∷ []) k d) (sym so_far.long) ∙ get_or-append_seam probes new [] d ∙ is ∙ ap (λ (r : Expected). probe_of r count) (same_row e))

-- a row that stands for none, where lists are read
any_row : Probe → Expected
any_row p = record { tick = p.tick; net = p.net; level = X }

abbrev pub tick_of : Probe → ℕ
tick_of p = p.tick

placed-rows : (rows : List Expected) (placed : List Probe) → ArePlaced rows placed (length rows) → All (IsProbe rows) placed
placed-rows rows placed are i d within =
    subst (IsProbe rows) (sym (are.each i d (any_row d) (omega (arith, within, are.long))))
    (omega (arith, within, are.long), λ e. ap (λ (r : Expected). probe_of r i) (get_or_default rows i (any_row d) e (omega (arith, within, are.long))))

-- put in another order, the probes are those of all rows still
pub ordered : (rows : List Expected) (placed probes : List Probe) → ArePlaced rows placed (length rows) → IsPermutation placed probes → AreRising probes → AreProbes rows probes
ordered rows placed probes are moved rising = record {
  each = All-permutation (IsProbe rows) placed probes moved (placed-rows rows placed are);
  whole = λ place e within. Contains-permutation placed probes _ moved
      (subst (Contains placed) (are.each place (probe_of e 0) e within) (Contains-get_or placed place (probe_of e 0) (omega (arith, within, are.long))));
  rising = rising;
}

-- the probes of rows that are within a run
pub lawful : (rows : List Expected) (probes : List Probe) (nets horizon : ℕ) → AreProbes rows probes → All (λ row. (row.net < nets) × (row.tick < horizon)) rows
    → AreLawful nets (length rows) horizon probes
lawful rows probes nets horizon are within = record {
  each = λ i d below. each_one (get_or probes i d) (are.each i d below);
  rising = are.rising;
  apart = λ i j d below after same. apart_ones (get_or probes i d) (get_or probes j d) (are.each i d below) (are.each j d after) same;
}
  where
    each_one : (p : Probe) → IsProbe rows p → IsLawful nets (length rows) horizon p
    each_one p (below, is) =
        let row : (get_or rows p.place (any_row p)).net < nets × (get_or rows p.place (any_row p)).tick < horizon = within p.place (any_row p) below in
        (omega (arith, row.0, ap (λ (q : Probe). q.net) (is (any_row p))), below, omega (arith, row.1, ap (λ (q : Probe). q.tick) (is (any_row p))))

    apart_ones : (p q : Probe) → IsProbe rows p → IsProbe rows q → p.place ≡ q.place → p ≡ q
    apart_ones p q (below, is) (after, are) same = is (any_row p) ∙ ap (λ (k : ℕ). probe_of (get_or rows k (any_row p)) k) same ∙ sym (are (any_row p))
