-- One name more among names.
use Rattle.std.proofs.Common.{◌≡◌, ◌∙◌, ℕ, ◌+◌, ◌<◌, List, [], ◌∷◌, ◌++◌, Bool, true, false, Option, None, Some, length, take, get_or, refl, sym, ap}
use Rattle.std.specs.Prelude.{◌||◌, not, if◌then◌else◌}
use Rattle.std.specs.Cmp.Lexicographic.{bytes_decides}
use Rattle.std.specs.List.{list_any}
use Rattle.std.specs.Str.{bytes_eq}
use Rattle.std.proofs.lemmas.List.Folds.{list_any-append, list_any_more}
use Rattle.cmb_bench.specs.Buses.{bus_of, is_bit, is_this}
use Rattle.cmb_bench.specs.Statement.{is_member}
use Rattle.cmb_netlist.specs.Netlist.{Netlist, name_of}

pub or_false : (b : Bool) → (b || false) ≡ b
or_false true = refl
or_false false = refl

or_true : (b : Bool) → (b || true) ≡ true
or_true true = refl
or_true false = refl

-- names after one more was inserted
pub member_more : (old new : List (List ℕ)) (own x : List ℕ) (fresh : Bool) → fresh ≡ not (is_member own old) → new ≡ (if fresh then old ++ own ∷ [] else old)
    → is_member x new ≡ (is_member x old || bytes_eq x own)
member_more old new own x fresh is_fresh is = by (is_member own old) refl
  where
    there : (same : Bool) → bytes_eq x own ≡ same → is_member own old ≡ true → is_member x old ≡ (is_member x old || same)
    there false e h = sym (or_false (is_member x old))
    there true e h =
        let eq : x ≡ own = (bytes_decides x own).0 e in
        let t : is_member x old ≡ true = ap (λ n. is_member n old) eq ∙ h in
        t ∙ sym (or_true (is_member x old))

    by : (b : Bool) → is_member own old ≡ b → is_member x new ≡ (is_member x old || bytes_eq x own)
    by true h =
        let stays : new ≡ old = is ∙ ap (λ f. if f then old ++ own ∷ [] else old) (is_fresh ∙ ap not h) in
        ap (is_member x) stays ∙ there (bytes_eq x own) refl h
    by false h =
        let grows : new ≡ old ++ own ∷ [] = is ∙ ap (λ f. if f then old ++ own ∷ [] else old) (is_fresh ∙ ap not h) in
        ap (is_member x) grows ∙ list_any-append (bytes_eq x) old (own ∷ []) ∙ ap (λ b. is_member x old || b) (or_false (bytes_eq x own))

module _ (names : List (List ℕ)) (net : ℕ) (x : List ℕ) (within : net < length names) where
  -- the bits among one net more
  pub bit_more : (bus : List ℕ) → bus_of (get_or names net []) ≡ Some bus → (list_any (is_bit x) (take net names) || bytes_eq x bus) ≡ list_any (is_bit x) (take (net + 1) names)
  bit_more bus is = ap (λ b. list_any (is_bit x) (take net names) || b) (sym (ap (is_this x) is)) ∙ sym (list_any_more (is_bit x) names net [] within)

  pub bit_same : bus_of (get_or names net []) ≡ None → list_any (is_bit x) (take net names) ≡ list_any (is_bit x) (take (net + 1) names)
  bit_same is = sym (list_any_more (is_bit x) names net [] within ∙ ap (λ b. list_any (is_bit x) (take net names) || b) (ap (is_this x) is) ∙ or_false (list_any (is_bit x) (take net names)))
