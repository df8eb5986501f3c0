-- Marks of nets.
use Rattle.std.proofs.Common.{◌≡◌, ◌||◌, ◌∙◌, ℕ, ◌+◌, ◌<◌, Bool, true, false, List, length, get_or, set, take, nat_eq, add-one, ap, sym, refl}
use Rattle.std.proofs.Math.Bool.{or_assoc}
use Rattle.cmb_netlist.specs.Netlist.{Netlist, driver_of, pins_of}
use Rattle.cmb_design_model.specs.Settings.{any_below}
use Rattle.std.proofs.lemmas.Bool.{eqb-false, eqb-true}
use Rattle.std.proofs.lemmas.Grind.{get_or-set_at}
use Rattle.std.proofs.lemmas.List.{get_or-set_other}
use Rattle.std.proofs.lemmas.List.Folds.{list_any_more}
use Rattle.cmb_count.specs.Unused.{is_among, is_read_by, is_used_below}

or_true : (a b : Bool) → (a || (b || true)) ≡ true
or_true true b = refl
or_true false true = refl
or_true false false = refl

or_false : (a b : Bool) → (a || (b || false)) ≡ (a || b)
or_false true b = refl
or_false false true = refl
or_false false false = refl

-- one more mark of a list
pub marked_more : (marks : List Bool) (old : Bool) (nets : List ℕ) (i net : ℕ) → i < length nets → get_or nets i 0 < length marks
    → get_or marks net false ≡ (old || is_among (take i nets) net)
    → get_or (set marks (get_or nets i 0) true) net false ≡ (old || is_among (take (i + 1) nets) net)
marked_more marks old nets i net within low before = by (nat_eq net (get_or nets i 0)) refl
  where
    more : is_among (take (i + 1) nets) net ≡ (is_among (take i nets) net || nat_eq net (get_or nets i 0))
    more = list_any_more (nat_eq net) nets i 0 within

    by : (b : Bool) → nat_eq net (get_or nets i 0) ≡ b → get_or (set marks (get_or nets i 0) true) net false ≡ (old || is_among (take (i + 1) nets) net)
    by true e =
        get_or-set_at marks (get_or nets i 0) net true false (eqb-true _ _ e) low
        ∙ sym (ap (λ x. old || x) (more ∙ ap (λ x. is_among (take i nets) net || x) e) ∙ or_true old (is_among (take i nets) net))
    by false e =
        get_or-set_other marks (get_or nets i 0) net true false (eqb-false _ _ e)
        ∙ before ∙ sym (ap (λ x. old || x) (more ∙ ap (λ x. is_among (take i nets) net || x) e) ∙ or_false old (is_among (take i nets) net))

-- the nets that one more net reads
pub used_more : (netlist : Netlist) (net readers : ℕ) (pins : List ℕ) (old new : Bool) → pins ≡ pins_of (driver_of netlist readers)
    → old ≡ is_used_below netlist readers net → new ≡ (old || is_among pins net) → new ≡ is_used_below netlist (readers + 1) net
unfolding any_below
used_more netlist net readers pins old new is before more = more ∙ rw (before, is, add-one) (or_assoc (is_among netlist.outputs net) (any_below (is_read_by netlist net) readers) (is_read_by netlist net readers))

-- what no one of the first nets reads
pub used_none : (netlist : Netlist) (net : ℕ) → (false || is_among netlist.outputs net) ≡ is_used_below netlist 0 net
unfolding any_below
used_none netlist net = by (is_among netlist.outputs net)
  where
    by : (b : Bool) → (false || b) ≡ (b || false)
    by true = refl
    by false = refl
