-- Tables of places, as rows are taken in turn.
use Rattle.std.proofs.Common.{◌≡◌, ◌≢◌, ◌≤◌, ◌<◌, ℕ, List, [], ◌∷◌, ◌++◌, Option, Some, None, length, get_or, map, set, take, ◌+◌, true, false, Bool, refl, sym, ap, arith, ◌∙◌, cond, ⊎_elim, inl, inr, ◌⊎◌, get_or-set_other, get_or-set_same}
use Rattle.std.specs.Prelude.{◌==◌, ◌||◌, is_some, find, option_map, replicate}
use Rattle.std.specs.List.{list_any, range_with_len}
use Rattle.std.specs.Option.{option_or}
use Rattle.std.proofs.lemmas.Bool.{cases_lt}
use Rattle.std.proofs.lemmas.Bool.Decides.{nat_tests}
use Rattle.std.proofs.lemmas.List.FromFn.{fill_by_all, get_or-map-range_with_len, length-map-range_with_len}
use Rattle.std.proofs.Math.ListN.{length-set}
use Rattle.std.proofs.lemmas.List.Folds.{find-append}
use Rattle.std.proofs.lemmas.List.{get_or-replicate, length-replicate}
use Rattle.cmb_design_model.specs.Nets.{is_at}
use Rattle.cmb_design_model.specs.Inner.Tables.{place_at, places}
use Rattle.cmb_design_model.proofs.CheckFacts.{take_one}

pub same_or_not : (m n : ℕ) → (m ≡ n) ⊎ (m ≢ n)
same_or_not m n = ⊎_elim (λ (h : m < n). inr (λ e. absurd (omega arith))) (λ (h : n ≤ m). ⊎_elim (λ (g : n < m). inr (λ e. absurd (omega arith))) (λ (g : m ≤ n). inl (omega arith)) (cases_lt n m)) (cases_lt m n)

pub none_from : {X : Type 0} (o : Option X) → is_some o ≡ false → o ≡ None
none_from None h = refl
none_from (Some x) h = cc h

pub or_none : {X : Type 0} (o : Option X) → option_or o None ≡ o
or_none None = refl
or_none (Some x) = refl

-- something is found exactly where a row passes the test
pub found : {X V : Type 0} (test : X → Bool) (value : X → V) (rows : List X) → is_some (option_map value (find test rows)) ≡ list_any test rows
found test value [] = refl
found test value (r ∷ rs) = by (test r) (found test value rs)
  where
    by : (b : Bool) → is_some (option_map value (find test rs)) ≡ list_any test rs → is_some (option_map value (cond b (Some r) (find test rs))) ≡ (b || list_any test rs)
    by true more = refl
    by false more = more

-- a place is taken exactly where a row has it
pub taken : {X V : Type 0} (place : X → Option ℕ) (value : X → V) (rows : List X) (k : ℕ) → is_some (place_at place value rows k) ≡ list_any (λ row. is_at (place row) k) rows
unfolding place_at
taken place value rows k = found (λ row. is_at (place row) k) value rows

none_of : {X V : Type 0} (value : X → V) (o : Option X) → option_map value o ≡ None → o ≡ None
none_of value None h = refl
none_of value (Some r) h = cc h

place_at-push : {X V : Type 0} (place : X → Option ℕ) (value : X → V) (es : List X) (r : X) (k j : ℕ) → place r ≡ Some k
    → place_at place value (es ++ r ∷ []) j ≡ option_map value (option_or (find (λ row. is_at (place row) j) es) (cond (k == j) (Some r) None))
unfolding place_at
place_at-push place value es r k j h = rw (find-append (λ row. is_at (place row) j) es (r ∷ []), h) refl

place_at-here : {X V : Type 0} (place : X → Option ℕ) (value : X → V) (es : List X) (r : X) (k : ℕ) → place r ≡ Some k → place_at place value es k ≡ None
    → place_at place value (es ++ r ∷ []) k ≡ Some (value r)
unfolding place_at
place_at-here place value es r k h n =
    let o : find (λ row. is_at (place row) k) es ≡ None = none_of value _ n in
    let e : (k == k) ≡ true = grind (arith, nat_tests) in
    rw (place_at-push place value es r k k h, o, e) refl

place_at-other : {X V : Type 0} (place : X → Option ℕ) (value : X → V) (es : List X) (r : X) (k j : ℕ) → place r ≡ Some k → j ≢ k
    → place_at place value (es ++ r ∷ []) j ≡ place_at place value es j
unfolding place_at
place_at-other place value es r k j h n =
    let e : (k == j) ≡ false = grind (arith, nat_tests) in
    rw (place_at-push place value es r k j h, e, or_none (find (λ row. is_at (place row) j) es)) refl

-- the table's places
length-places : {X V : Type 0} (place : X → Option ℕ) (value : X → V) (count : ℕ) (rows : List X) → length (places place value count rows) ≡ count
unfolding places
length-places place value count rows = length-map-range_with_len (place_at place value rows) 0 count

pub places-at : {X V : Type 0} (place : X → Option ℕ) (value : X → V) (count : ℕ) (rows : List X) (k : ℕ) (d : Option V) → k < count
    → get_or (places place value count rows) k d ≡ place_at place value rows k
unfolding places
places-at place value count rows k d h = get_or-map-range_with_len (place_at place value rows) 0 count k k d h (omega arith)

-- one more row
pub places-push : {X V : Type 0} (place : X → Option ℕ) (value : X → V) (count : ℕ) (es : List X) (r : X) (k : ℕ) → k < count → place r ≡ Some k
    → place_at place value es k ≡ None → set (places place value count es) k (Some (value r)) ≡ places place value count (es ++ r ∷ [])
unfolding places
places-push place value count es r k below n t =
    let old = map (place_at place value es) (range_with_len 0 count) in
    let len : length old ≡ count = length-map-range_with_len (place_at place value es) 0 count in
    let at : (j : ℕ) → j < count → get_or (set old k (Some (value r))) j None ≡ place_at place value (es ++ r ∷ []) j =
    λ j b. ⊎_elim
    (λ (s : j ≡ k). let u : k < length old = omega arith in rw s (get_or-set_same old k (Some (value r)) None u ∙ sym (place_at-here place value es r k n t)))
    (λ (s : j ≢ k). get_or-set_other old k j (Some (value r)) None s ∙ get_or-map-range_with_len (place_at place value es) 0 count j j None b (omega arith) ∙ sym (place_at-other place value es r k j n s))
    (same_or_not j k) in
    fill_by_all (place_at place value (es ++ r ∷ [])) (set old k (Some (value r))) count None (length-set old k (Some (value r)) ∙ len) at

-- no row
pub places-empty : {X V : Type 0} (place : X → Option ℕ) (value : X → V) (count : ℕ) (xs : List (Option V)) → xs ≡ replicate count None → xs ≡ places place value count []
unfolding places place_at
places-empty place value count xs e =
    rw e (fill_by_all (place_at place value []) (replicate count None) count None (length-replicate count None) (λ j b. get_or-replicate count j None None b))

-- a table whose slot was read
pub slot : {X V : Type 0} (place : X → Option ℕ) (value : X → V) (count : ℕ) (rows : List X) (table : List (Option V)) (k : ℕ) (s : Option V) → k < count
    → table ≡ places place value count rows → s ≡ get_or table k s → s ≡ place_at place value rows k
slot place value count rows table k s h e f = f ∙ ap (λ t. get_or t k s) e ∙ places-at place value count rows k s h

-- a place has a slot
pub slot_within : {X V : Type 0} (place : X → Option ℕ) (value : X → V) (count : ℕ) (rows : List X) (table : List (Option V)) (k : ℕ) → k < count
    → table ≡ places place value count rows → k < length table
slot_within place value count rows table k h e = omega (arith, length-places place value count rows, ap length e)

-- a row has the place exactly where the slot that was read is taken
pub slot_taken : {X V : Type 0} (place : X → Option ℕ) (value : X → V) (count : ℕ) (rows : List X) (table : List (Option V)) (k : ℕ) (s : Option V) (held : Bool) → k < count
    → table ≡ places place value count rows → s ≡ get_or table k s → is_some s ≡ held → is_some (place_at place value rows k) ≡ held
slot_taken place value count rows table k s held h e f t = ap is_some (sym (slot place value count rows table k s h e f)) ∙ t

-- the row with an index is put into its slot, which was free
pub slot_put : {X V : Type 0} (place : X → Option ℕ) (value : X → V) (count : ℕ) (rows : List X) (i : ℕ) (r : X) (k : ℕ) (table : List (Option V)) (s : Option V)
    → i < length rows → r ≡ get_or rows i r → place r ≡ Some k → k < count → table ≡ places place value count (take i rows) → s ≡ get_or table k s → is_some s ≡ false
    → set table k (Some (value r)) ≡ places place value count (take (i + 1) rows)
slot_put place value count rows i r k table s h e p b a f t =
    rw (take_one rows i r h e)
    (ap (λ u. set u k (Some (value r))) a ∙ places-push place value count (take i rows) r k b p (none_from _ (slot_taken place value count (take i rows) table k s false b a f t)))
