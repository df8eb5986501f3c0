-- The levels of rows' nets in a part of a design.
use Rattle.std.proofs.Common.{◌≡◌, ℕ, ◌+◌, ◌<◌, ◌≤◌, List, [], ◌∷◌, ◌++◌, length, length-append, map, get_or, ◌⊎◌, inl, inr, refl, sym, ap, subst, ◌∙◌, arith}
use Rattle.std.specs.Prelude.{All}
use Rattle.std.proofs.lemmas.Bool.{cases_lt}
use Rattle.std.proofs.lemmas.List.{get_or_append_left, get_or_default, get_or-map, length-map, same_lists}
use Rattle.std.proofs.Math.Seq.{get_or-append_seam}
use Rattle.cmb_wave.specs.declared.level.Level.{Level}
use Rattle.cmb_wave.specs.declared.level.Level.TheVariants.{X}
use Rattle.cmb_design_model.specs.Design.{Design}
use Rattle.cmb_design_model.specs.Exact.{nets_of}
use Rattle.cmb_design_model.specs.Expected.{IsWithin}
use Rattle.cmb_design_model.specs.Value.{value}
use Rattle.cmb_design_model.specs.declared.expected.Expected.{Expected}
use Rattle.cmb_expect.specs.Expectations.{level_found}
use Rattle.cmb_chosen.specs.Inner.Levels.{AreLevelsAt, AreRenumbered, with_net}

pub none_renumbered : (rows : List Expected) (nets : List ℕ) → AreRenumbered rows nets 0 []
none_renumbered rows nets = record { long = refl; each = λ i d below. absurd (omega (arith, below)) }

pub one_renumbered : (rows : List Expected) (nets : List ℕ) (count : ℕ) (placed : List Expected) (new : Expected) → AreRenumbered rows nets count placed → count < length rows
    → new ≡ with_net (get_or nets count 0) (get_or rows count new) → AreRenumbered rows nets (count + 1) (placed ++ new ∷ [])
one_renumbered rows nets count placed new so_far within is = record {
  long = length-append placed (new ∷ []) ∙ (let e : length placed + 1 ≡ count + 1 = omega (arith, so_far.long) in e);
  each = λ i d below. go i d (cases_lt i count) below;
}
  where
    go : (i : ℕ) (d : Expected) → (i < count) ⊎ (count ≤ i) → i < count + 1 → get_or (placed ++ new ∷ []) i d ≡ with_net (get_or nets i 0) (get_or rows i d)
    go i d (inl early) below = get_or_append_left placed (new ∷ []) d i (omega (arith, early, so_far.long)) ∙ so_far.each i d early
    go i d (inr late) below =
        let same : count ≡ i = omega (arith, late, below) in
        subst (λ (k : ℕ). get_or (placed ++ new ∷ []) k d ≡ with_net (get_or nets k 0) (get_or rows k d)) same
        (ap (λ (k : ℕ). get_or (placed ++ new ∷ []) k d) (sym so_far.long) ∙ get_or-append_seam placed new [] d ∙ is
        ∙ ap (with_net (get_or nets count 0)) (get_or_default rows count new d within))

-- the rows of these nets are within the run
pub renumbered-within : (design : Design) (rows placed : List Expected) (nets : List ℕ) → AreRenumbered rows nets (length rows) placed → length nets ≡ length rows
    → All (λ net. net < nets_of design) nets → All (λ row. row.tick < design.horizon) rows → All (IsWithin design) placed
renumbered-within design rows placed nets are many within ticks i d below =
    let inside : i < length rows = omega (arith, below, are.long) in
    subst (IsWithin design) (sym (are.each i d inside)) (within i 0 (omega (arith, inside, many)), ticks i d inside)

pub levels-at : (design : Design) (rows placed : List Expected) (nets : List ℕ) (levels : List Level) → AreRenumbered rows nets (length rows) placed
    → levels ≡ map (level_found design) placed → AreLevelsAt design nets rows levels
levels-at design rows placed nets levels are is = record {
  long = ap length is ∙ length-map placed (level_found design) ∙ are.long;
  each = λ i d e below.
      ap (λ (list : List Level). get_or list i d) is ∙ get_or-map (level_found design) placed i e d (omega (arith, below, are.long))
      ∙ ap (level_found design) (are.each i e below);
}

-- the nets' levels in a part are those of the rows in the whole
pub levels-back : (design part : Design) (rows : List Expected) (nets places : List ℕ) (levels : List Level) → AreLevelsAt part places rows levels → nets ≡ map (λ row. row.net) rows
    → ((i tick : ℕ) → i < length nets → value part (get_or places i 0) tick ≡ value design (get_or nets i 0) tick) → levels ≡ map (level_found design) rows
levels-back design part rows nets places levels at named same = same_lists levels (map (level_found design) rows) (at.long ∙ sym (length-map rows (level_found design))) each
  where
    each : (i : ℕ) (d : Level) → i < length levels → get_or levels i d ≡ get_or (map (level_found design) rows) i d
    each i d below =
        let e : Expected = record { tick = 0; net = 0; level = d } in
        let inside : i < length rows = omega (arith, below, at.long) in
        let net : get_or nets i 0 ≡ (get_or rows i e).net = ap (λ (list : List ℕ). get_or list i 0) named ∙ get_or-map (λ (row : Expected). row.net) rows i e 0 inside in
        at.each i d e inside ∙ same i (get_or rows i e).tick (omega (arith, inside, ap length named, length-map rows (λ (row : Expected). row.net)))
        ∙ ap (λ (n : ℕ). value design n (get_or rows i e).tick) net ∙ sym (get_or-map (level_found design) rows i e d inside)

-- the nets of rows that are within a run
pub named-within : (design : Design) (rows : List Expected) (nets : List ℕ) → nets ≡ map (λ row. row.net) rows → All (IsWithin design) rows → All (λ net. net < nets_of design) nets
named-within design rows nets named within i d below =
    let e : Expected = record { tick = 0; net = d; level = X } in
    let inside : i < length rows = omega (arith, below, ap length named, length-map rows (λ (row : Expected). row.net)) in
    let net : get_or nets i d ≡ (get_or rows i e).net = ap (λ (list : List ℕ). get_or list i d) named ∙ get_or-map (λ (row : Expected). row.net) rows i e d inside in
    omega (arith, net, (within i e inside).0)
