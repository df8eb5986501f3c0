-- Rows of any kind, checked in turn: one more row passes, or the first fault is its own.
use Rattle.std.specs.Prelude.{cond, slice_get}
use Rattle.std.proofs.Common.{inl, inr, zero, Bool, Option, true, false, ◌≡◌, ◌<◌, ◌+◌, ℕ, suc, List, [], ◌∷◌, ◌++◌, Some, None, length, take, drop, get_or, refl, sym, ap, arith, ◌∙◌, add-one, append_assoc, drop-cons}
use Rattle.std.proofs.lemmas.List.{append-nil, length-take, take-append-drop}
use Rattle.std.proofs.Math.Seq.{take-suc}
use Rattle.cmb_design_model.specs.Checks.{Check, IsFaultOf, checks_after, checks_at, checks_of, first_fault, rows_checks}
use Rattle.cmb_design_model.specs.declared.fault.DesignFault.{DesignFault}

pub first_fault-none : (xs ys : List Check) → first_fault xs ≡ None → first_fault (xs ++ ys) ≡ first_fault ys
unfolding first_fault
first_fault-none [] ys h = refl
first_fault-none (c ∷ cs) ys h = by c.stands h (first_fault-none cs ys)
  where
    by : (b : Bool) → cond b (Some c.answer) (first_fault cs) ≡ None → (first_fault cs ≡ None → first_fault (cs ++ ys) ≡ first_fault ys) → cond b (Some c.answer) (first_fault (cs ++ ys)) ≡ first_fault ys
    by true h more = cc h
    by false h more = more h

pub first_fault-some : (xs ys : List Check) (e : DesignFault) → first_fault xs ≡ Some e → first_fault (xs ++ ys) ≡ Some e
unfolding first_fault
first_fault-some [] ys e h = cc h
first_fault-some (c ∷ cs) ys e h = by c.stands h (first_fault-some cs ys e)
  where
    by : (b : Bool) → cond b (Some c.answer) (first_fault cs) ≡ Some e → (first_fault cs ≡ Some e → first_fault (cs ++ ys) ≡ Some e) → cond b (Some c.answer) (first_fault (cs ++ ys)) ≡ Some e
    by true h more = h
    by false h more = more h

abbrev pub Checks : Type 0 → Type 0
Checks X = ℕ → List X → X → List Check

checks_after-append : {X : Type 0} (checks : Checks X) (n : ℕ) (earlier xs ys : List X)
    → checks_after checks n earlier (xs ++ ys) ≡ checks_after checks n earlier xs ++ checks_after checks (n + length xs) (earlier ++ xs) ys
unfolding checks_after
checks_after-append checks n earlier [] ys = let e : n + 0 ≡ n = omega arith in rw (e, append-nil earlier) refl
checks_after-append checks n earlier (x ∷ xs) ys =
    let e : n + suc (length xs) ≡ n + 1 + length xs = omega arith in
    let f : earlier ++ x ∷ xs ≡ (earlier ++ x ∷ []) ++ xs = sym (append_assoc earlier (x ∷ []) xs) in
    rw (e, f) (ap (λ t. checks n earlier x ++ t) (checks_after-append checks (n + 1) (earlier ++ x ∷ []) xs ys)
    ∙ sym (append_assoc (checks n earlier x) (checks_after checks (n + 1) (earlier ++ x ∷ []) xs) (checks_after checks (n + 1 + length xs) ((earlier ++ x ∷ []) ++ xs) ys)))

-- the checks of the first rows, of the next row, and of the others
checks_next : {X : Type 0} (checks : Checks X) (m n : ℕ) (taken rest : List X) (r : X) → n ≡ m + length taken
    → checks_after checks m [] (taken ++ r ∷ rest)
    ≡ checks_after checks m [] taken ++ (checks n taken r ++ checks_after checks (n + 1) (taken ++ r ∷ []) rest)
unfolding checks_after
checks_next checks m n taken rest r h = rw h (checks_after-append checks m [] taken (r ∷ rest))

-- no check of the next row stands
pub pass_next : {X : Type 0} (checks : Checks X) (m n : ℕ) (taken : List X) (r : X) → n ≡ m + length taken
    → first_fault (checks_after checks m [] taken) ≡ None → first_fault (checks n taken r) ≡ None
    → first_fault (checks_after checks m [] (taken ++ r ∷ [])) ≡ None
unfolding checks_after first_fault
pass_next checks m n taken r h p q =
    rw (checks_next checks m n taken [] r h) (
    first_fault-none (checks_after checks m [] taken) (checks n taken r ++ checks_after checks (n + 1) (taken ++ r ∷ []) []) p
    ∙ first_fault-none (checks n taken r) [] q
    )

-- a check of the next row stands
pub refuse_next : {X : Type 0} (checks : Checks X) (m n : ℕ) (taken rest : List X) (r : X) (f : DesignFault) → n ≡ m + length taken
    → first_fault (checks_after checks m [] taken) ≡ None → first_fault (checks n taken r) ≡ Some f
    → first_fault (checks_after checks m [] (taken ++ r ∷ rest)) ≡ Some f
refuse_next checks m n taken rest r f h p q =
    rw (checks_next checks m n taken rest r h) (
    first_fault-none (checks_after checks m [] taken) (checks n taken r ++ checks_after checks (n + 1) (taken ++ r ∷ []) rest) p
    ∙ first_fault-some (checks n taken r) (checks_after checks (n + 1) (taken ++ r ∷ []) rest) f q
    )

pub rows_pass : {X : Type 0} (checks : Checks X) (rows : List X) (i : ℕ) (r : X) → i < length rows → r ≡ get_or rows i r
    → first_fault (rows_checks checks (take i rows)) ≡ None → first_fault (checks (i + 2) (take i rows) r) ≡ None
    → first_fault (rows_checks checks (take (i + 1) rows)) ≡ None
rows_pass checks rows i r h e p q =
    let more : take (i + 1) rows ≡ take i rows ++ r ∷ [] = rw add-one (take-suc rows i r h ∙ ap (λ x. take i rows ++ x ∷ []) (sym e)) in
    rw more (pass_next checks 2 (i + 2) (take i rows) r (omega (arith, length-take i rows)) p q)

pub rows_refuse : {X : Type 0} (checks : Checks X) (rows : List X) (i : ℕ) (r : X) (f : DesignFault) → i < length rows → r ≡ get_or rows i r
    → first_fault (rows_checks checks (take i rows)) ≡ None → first_fault (checks (i + 2) (take i rows) r) ≡ Some f
    → first_fault (rows_checks checks rows) ≡ Some f
rows_refuse checks rows i r f h e p q =
    let all : rows ≡ take i rows ++ r ∷ drop (suc i) rows =
    sym (take-append-drop i rows) ∙ ap (λ t. take i rows ++ t) (drop-cons rows i r h ∙ ap (λ x. x ∷ drop (suc i) rows) (sym e)) in
    ap (λ t. first_fault (rows_checks checks t)) all
    ∙ refuse_next checks 2 (i + 2) (take i rows) (drop (suc i) rows) r f (omega (arith, length-take i rows)) p q

pub get_some : {X : Type 0} (xs : List X) (i : ℕ) (x : X) → i < length xs → x ≡ get_or xs i x → slice_get xs i ≡ Some x
get_some [] i x h e = absurd (omega arith)
get_some (y ∷ ys) zero x h e = ap Some (sym e)
get_some (y ∷ ys) (suc i) x h e = get_some ys i x (omega arith) e

-- the checks of the row with an index, by the row
pub checks_at-is : {X : Type 0} (checks : Checks X) (rows : List X) (i : ℕ) (r : X) → i < length rows → r ≡ get_or rows i r → checks_at checks rows i ≡ checks (i + 2) (take i rows) r
unfolding checks_at
checks_at-is checks rows i r h e = rw (get_some rows i r h e) refl

pub take_one : {X : Type 0} (rows : List X) (i : ℕ) (r : X) → i < length rows → r ≡ get_or rows i r → take (i + 1) rows ≡ take i rows ++ r ∷ []
take_one rows i r h e = rw add-one (take-suc rows i r h ∙ ap (λ x. take i rows ++ x ∷ []) (sym e))

pub element_at : {X : Type 0} (xs : List X) (i : ℕ) → i < length xs → (x : X) × (x ≡ get_or xs i x)
element_at [] i h = absurd (omega arith)
element_at (y ∷ ys) zero h = (y, refl)
element_at (y ∷ ys) (suc i) h = element_at ys i (omega arith)

-- the loop's two steps
pub pass_at : {X : Type 0} (checks : Checks X) (rows : List X) (i : ℕ) → i < length rows
    → first_fault (rows_checks checks (take i rows)) ≡ None → first_fault (checks_at checks rows i) ≡ None
    → first_fault (rows_checks checks (take (i + 1) rows)) ≡ None
pass_at checks rows i h p q =
    let x = element_at rows i h in
    rows_pass checks rows i x.0 h x.1 p (sym (ap first_fault (checks_at-is checks rows i x.0 h x.1)) ∙ q)

refuse_at : {X : Type 0} (checks : Checks X) (rows : List X) (i : ℕ) (f : DesignFault) → i < length rows
    → first_fault (rows_checks checks (take i rows)) ≡ None → first_fault (checks_at checks rows i) ≡ Some f
    → first_fault (rows_checks checks rows) ≡ Some f
refuse_at checks rows i f h p q =
    let x = element_at rows i h in
    rows_refuse checks rows i x.0 f h x.1 p (sym (ap first_fault (checks_at-is checks rows i x.0 h x.1)) ∙ q)

-- checks of a row that are those of others and then a last one
abbrev pub with_last : {X : Type 0} → Checks X → (ℕ → X → Check) → Checks X
with_last first last n earlier r = first n earlier r ++ last n r ∷ []

-- what the others refuse is refused
pub last-after : {X : Type 0} (first : Checks X) (last : ℕ → X → Check) (rows : List X) (i : ℕ) (e : DesignFault) → IsFaultOf (checks_at first rows i) e
    → IsFaultOf (checks_at (with_last first last) rows i) e
unfolding checks_at
last-after first last rows i e (inl memory) = inl memory
last-after {X} first last rows i e (inr refused) = inr (go (slice_get rows i) refused)
  where
    go : (o : Option X) → first_fault (checks_of first rows i o) ≡ Some e → first_fault (checks_of (with_last first last) rows i o) ≡ Some e
    go None h = h
    go (Some r) h = first_fault-some (first (i + 2) (take i rows) r) (last (i + 2) r ∷ []) e h

-- where they pass, the last one decides
pub last-decides : {X : Type 0} (first : Checks X) (last : ℕ → X → Check) (rows : List X) (i : ℕ) (r : X) → i < length rows → r ≡ get_or rows i r
    → first_fault (checks_at first rows i) ≡ None
    → first_fault (checks_at (with_last first last) rows i) ≡ cond (last (i + 2) r).stands (Some (last (i + 2) r).answer) None
unfolding first_fault
last-decides first last rows i r h e passed =
    ap first_fault (checks_at-is (with_last first last) rows i r h e)
    ∙ first_fault-none (first (i + 2) (take i rows) r) (last (i + 2) r ∷ []) (sym (ap first_fault (checks_at-is first rows i r h e)) ∙ passed)

-- what refuses the next row refuses all
pub stops_at : {X : Type 0} (checks : Checks X) (rows : List X) (i : ℕ) (e : DesignFault) → i < length rows
    → first_fault (rows_checks checks (take i rows)) ≡ None → IsFaultOf (checks_at checks rows i) e
    → IsFaultOf (rows_checks checks rows) e
stops_at checks rows i e h p (inl memory) = inl memory
stops_at checks rows i e h p (inr first) = inr (refuse_at checks rows i e h p first)
