-- The lists of readers.
use Rattle.std.proofs.Common.{◌≡◌, ℕ, suc, ◌+◌, ◌<◌, Bool, true, false, cond, eqb, List, [], ◌∷◌, ◌++◌, ◌⊎◌, inl, inr, length, get_or, set, take, refl, sym, ◌∙◌, ap, arith, append_assoc, get_or-set_same, get_or-set_other}
use Rattle.std.proofs.lemmas.Bool.{eq-eqb, ne_eqb, cases_eq}
use Rattle.std.proofs.lemmas.List.{append-nil, take_more, length-take-le}
use Rattle.cmb_core_cluster.specs.declared.process.ProcessPin.{ProcessPin}
use Rattle.cmb_core_cluster.specs.declared.directory.Reader.{Reader}
use Rattle.cmb_core_cluster.specs.Rows.{Process}
use Rattle.cmb_core_cluster.specs.Directory.{pins_on, readers_from, given_at, listed_readers}

pins_more : (place slot : ℕ) (os : List ProcessPin) (o : ProcessPin) → pins_on place slot (os ++ o ∷ []) ≡ pins_on place slot os ++ cond (eqb o.slot place) (record { slot = slot; delay = o.delay } ∷ []) []
pins_more place slot [] o = refl
pins_more place slot (q ∷ os) o = go (eqb q.slot place) (pins_more place slot os o)
  where
    go : (b : Bool) → pins_on place slot (os ++ o ∷ []) ≡ pins_on place slot os ++ cond (eqb o.slot place) (record { slot = slot; delay = o.delay } ∷ []) []
        → cond b (record { slot = slot; delay = q.delay } ∷ pins_on place slot (os ++ o ∷ [])) (pins_on place slot (os ++ o ∷ []))
        ≡ cond b (record { slot = slot; delay = q.delay } ∷ pins_on place slot os) (pins_on place slot os) ++ cond (eqb o.slot place) (record { slot = slot; delay = o.delay } ∷ []) []
    go true rest = ap (λ xs. record { slot = slot; delay = q.delay } ∷ xs) rest
    go false rest = rest

readers_more : (place slot : ℕ) (ps : List Process) (p : Process) → readers_from place slot (ps ++ p ∷ []) ≡ readers_from place slot ps ++ pins_on place (slot + length ps) p.operands
readers_more place slot [] p = let e : slot ≡ slot + 0 = omega arith in append-nil _ ∙ ap (λ k. pins_on place k p.operands) e
readers_more place slot (q ∷ ps) p =
    let e : suc slot + length ps ≡ slot + suc (length ps) = omega arith in
    ap (λ xs. pins_on place slot q.operands ++ xs) (readers_more place (suc slot) ps p ∙ ap (λ k. readers_from place (suc slot) ps ++ pins_on place k p.operands) e)
    ∙ sym (append_assoc (pins_on place slot q.operands) (readers_from place (suc slot) ps) (pins_on place (slot + suc (length ps)) p.operands))

-- the pins of a given wave, none of another
abbrev pub pins_if : List Process → ℕ → ℕ → List ProcessPin → List Reader
pins_if nodes place slot os = cond (given_at nodes place) (pins_on place slot os) []

abbrev pub one_if : List Process → ℕ → ℕ → ProcessPin → List Reader
one_if nodes place slot o = cond (given_at nodes place) (cond (eqb o.slot place) (record { slot = slot; delay = o.delay } ∷ []) []) []

pub pins_if_more : (nodes : List Process) (place slot i : ℕ) (os : List ProcessPin) (d : ProcessPin) → i < length os
    → pins_if nodes place slot (take (i + 1) os) ≡ pins_if nodes place slot (take i os) ++ one_if nodes place slot (get_or os i d)
pins_if_more nodes place slot i os d h = go (given_at nodes place) (ap (pins_on place slot) (take_more os i d h) ∙ pins_more place slot (take i os) (get_or os i d))
  where
    go : (b : Bool) → pins_on place slot (take (i + 1) os) ≡ pins_on place slot (take i os) ++ cond (eqb (get_or os i d).slot place) (record { slot = slot; delay = (get_or os i d).delay } ∷ []) []
        → cond b (pins_on place slot (take (i + 1) os)) [] ≡ cond b (pins_on place slot (take i os)) [] ++ cond b (cond (eqb (get_or os i d).slot place) (record { slot = slot; delay = (get_or os i d).delay } ∷ []) []) []
    go true e = e
    go false e = refl

-- what was listed so far, and one operand more
pub listed_more : (nodes : List Process) (now old : List (List Reader)) (place slot i : ℕ) (os : List ProcessPin) (d : ProcessPin) (new : List Reader) → i < length os
    → get_or now place [] ≡ get_or old place [] ++ pins_if nodes place slot (take i os)
    → new ≡ get_or now place [] ++ one_if nodes place slot (get_or os i d)
    → new ≡ get_or old place [] ++ pins_if nodes place slot (take (i + 1) os)
listed_more nodes now old place slot i os d new h e n =
    n ∙ ap (λ xs. xs ++ one_if nodes place slot (get_or os i d)) e
    ∙ append_assoc (get_or old place []) (pins_if nodes place slot (take i os)) (one_if nodes place slot (get_or os i d))
    ∙ ap (λ xs. get_or old place [] ++ xs) (sym (pins_if_more nodes place slot i os d h))

none_of : (nodes : List Process) (place slot : ℕ) (o : ProcessPin) → eqb o.slot place ≡ false → one_if nodes place slot o ≡ []
none_of nodes place slot o other = go (given_at nodes place) (eqb o.slot place) other
  where
    go : (a b : Bool) → b ≡ false → cond {A = List Reader} a (cond {A = List Reader} b (record { slot = slot; delay = o.delay } ∷ []) []) [] ≡ []
    go true true e = cc
    go true false e = refl
    go false b e = refl

none_driven : (nodes : List Process) (place slot : ℕ) (o : ProcessPin) → given_at nodes place ≡ false → one_if nodes place slot o ≡ []
none_driven nodes place slot o driven = go (given_at nodes place) driven
  where
    go : (b : Bool) → b ≡ false → cond {A = List Reader} b (cond {A = List Reader} (eqb o.slot place) (record { slot = slot; delay = o.delay } ∷ []) []) [] ≡ []
    go true e = cc
    go false e = refl

-- a pin is put into the list of its given wave
pub listed_put : (nodes : List Process) (now : List (List Reader)) (place slot : ℕ) (o : ProcessPin) → o.slot < length now → given_at nodes o.slot ≡ true
    → get_or (set now o.slot (get_or now o.slot [] ++ record { slot = slot; delay = o.delay } ∷ [])) place [] ≡ get_or now place [] ++ one_if nodes place slot o
listed_put nodes now place slot o h given = go (cases_eq place o.slot)
  where
    go : (place ≡ o.slot) ⊎ (place ≡ o.slot → ⊥) → get_or (set now o.slot (get_or now o.slot [] ++ record { slot = slot; delay = o.delay } ∷ [])) place [] ≡ get_or now place [] ++ one_if nodes place slot o
    go (inl same) =
        let here : eqb o.slot place ≡ true = eq-eqb _ _ (sym same) in
        let there : given_at nodes place ≡ true = ap (given_at nodes) same ∙ given in
        ap (λ k. get_or (set now o.slot (get_or now o.slot [] ++ record { slot = slot; delay = o.delay } ∷ [])) k []) same
        ∙ get_or-set_same now o.slot (get_or now o.slot [] ++ record { slot = slot; delay = o.delay } ∷ []) [] h
        ∙ ap (λ k. get_or now k [] ++ record { slot = slot; delay = o.delay } ∷ []) (sym same)
        ∙ ap (λ b. get_or now place [] ++ cond {A = List Reader} b (record { slot = slot; delay = o.delay } ∷ []) []) (sym here)
        ∙ ap (λ b. get_or now place [] ++ cond {A = List Reader} b (cond {A = List Reader} (eqb o.slot place) (record { slot = slot; delay = o.delay } ∷ []) []) []) (sym there)
    go (inr ne) =
        let other : eqb o.slot place ≡ false = ne_eqb _ _ (λ q. ne (sym q)) in
        get_or-set_other now o.slot place _ [] ne ∙ sym (append-nil (get_or now place [])) ∙ ap (λ xs. get_or now place [] ++ xs) (sym (none_of nodes place slot o other))

-- a pin of a wave that is driven here is put nowhere
pub listed_still : (nodes : List Process) (now : List (List Reader)) (place slot : ℕ) (o : ProcessPin) → given_at nodes o.slot ≡ false
    → get_or now place [] ≡ get_or now place [] ++ one_if nodes place slot o
listed_still nodes now place slot o driven = sym (append-nil (get_or now place [])) ∙ ap (λ xs. get_or now place [] ++ xs) (sym (go (cases_eq place o.slot)))
  where
    go : (place ≡ o.slot) ⊎ (place ≡ o.slot → ⊥) → one_if nodes place slot o ≡ []
    go (inl same) = none_driven nodes place slot o (ap (given_at nodes) same ∙ driven)
    go (inr ne) = none_of nodes place slot o (ne_eqb _ _ (λ q. ne (sym q)))

pub listed_none : (nodes : List Process) (place : ℕ) → listed_readers nodes [] place ≡ []
listed_none nodes place = go (given_at nodes place)
  where
    go : (b : Bool) → cond {A = List Reader} b [] [] ≡ []
    go true = refl
    go false = refl

-- one process more
pub process_listed : (nodes : List Process) (place slot : ℕ) (d : Process) (old new : List Reader) → slot < length nodes
    → old ≡ listed_readers nodes (take slot nodes) place → new ≡ old ++ pins_if nodes place slot (get_or nodes slot d).operands
    → new ≡ listed_readers nodes (take (slot + 1) nodes) place
process_listed nodes place slot d old new h e n =
    n ∙ ap (λ xs. xs ++ pins_if nodes place slot (get_or nodes slot d).operands) e ∙ go (given_at nodes place) more
  where
    long : 0 + length (take slot nodes) ≡ slot
    long = omega (arith, length-take-le slot nodes (omega arith))

    more : readers_from place 0 (take (slot + 1) nodes) ≡ readers_from place 0 (take slot nodes) ++ pins_on place slot (get_or nodes slot d).operands
    more =
        ap (readers_from place 0) (take_more nodes slot d h) ∙ readers_more place 0 (take slot nodes) (get_or nodes slot d)
        ∙ ap (λ k. readers_from place 0 (take slot nodes) ++ pins_on place k (get_or nodes slot d).operands) long

    go : (b : Bool) → readers_from place 0 (take (slot + 1) nodes) ≡ readers_from place 0 (take slot nodes) ++ pins_on place slot (get_or nodes slot d).operands
        → cond b (readers_from place 0 (take slot nodes)) [] ++ cond b (pins_on place slot (get_or nodes slot d).operands) [] ≡ cond b (readers_from place 0 (take (slot + 1) nodes)) []
    go true r = sym r
    go false r = refl
