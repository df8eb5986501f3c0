-- Facts on lists of changes.
use Rattle.std.proofs.Common.{◌≡◌, ◌≢◌, ℕ, zero, suc, ◌+◌, ◌-◌, ◌<◌, ◌≤◌, true, false, List, [], ◌∷◌, ◌++◌, length, get_or, take, drop, refl, arith, nat_le, nat_lt, not, ◌&&◌, if◌then◌else◌, Some, None, sym, ap, ◌∙◌, ◌⊎◌, inl, inr}
use Rattle.std.specs.List.Sorted.{IsNonDecreasingBy, IsPartitionPoint}
use Rattle.std.proofs.lemmas.List.{take_all, length-drop, drop-drop, drop-append-le}
use Rattle.std.proofs.lemmas.Bool.{le-leb, lt-leb, lt-ltb, le-ltb, and_parts, cases_Bool, cases_lt}
use Rattle.std.proofs.lemmas.Bool.Decides.{nat_tests}
use Rattle.cmb_wave.specs.declared.level.Level.{Level}
use Rattle.cmb_wave.specs.declared.level.Change.{Change}
use Rattle.cmb_wave.specs.declared.level.Level.TheVariants.{Zero, One, X}
use Rattle.cmb_wave.specs.Waveform.{same_level, level_at, level_before, last_level, below, at_or_after, changes_below, Rises, IsTrace, IsPart, clash}
use Rattle.cmb_wave.specs.Calls.{rises, inside, differs}

-- no tick of a rising list is below its least
pub rises_get : (low : ℕ) (cs : List Change) (i : ℕ) (d : Change) → Rises low cs → i < length cs → low ≤ (get_or cs i d).tick
rises_get low [] i d r h = grind arith
rises_get low (c ∷ cs) zero d r h = r.0
rises_get low (c ∷ cs) (suc i) d r h =
    let rest : suc c.tick ≤ (get_or cs i d).tick = rises_get (suc c.tick) cs i d r.1 (omega arith) in omega (arith, r.0)

-- in a list that rises no tick is below an earlier one
pub ticks_ascend : (low : ℕ) (cs : List Change) → Rises low cs → IsNonDecreasingBy (λ change. change.tick) cs
ticks_ascend low [] r i j d le lt = grind arith
ticks_ascend low (c ∷ cs) r zero zero d le lt = omega arith
ticks_ascend low (c ∷ cs) r zero (suc j) d le lt =
    let later : suc c.tick ≤ (get_or cs j d).tick = rises_get (suc c.tick) cs j d r.1 (omega arith) in omega arith
ticks_ascend low (c ∷ cs) r (suc i) zero d le lt = absurd (omega arith)
ticks_ascend low (c ∷ cs) r (suc i) (suc j) d le lt = ticks_ascend (suc c.tick) cs r.1 i j d (omega arith) (omega arith)

-- a place with all that is below the tick before it, and all the rest after it, is the count
pub below_at_point : (t : ℕ) (cs : List Change) (i : ℕ) → i ≤ length cs → IsPartitionPoint (λ change. nat_lt change.tick t ≡ true) (λ change. nat_lt change.tick t ≡ false) cs i → i ≡ below t cs
below_at_point t [] i h point = omega arith
below_at_point t (c ∷ cs) zero h point =
    let late : nat_lt c.tick t ≡ false = point.1 0 c (omega arith) (omega arith) in rw late refl
below_at_point t (c ∷ cs) (suc i) h point =
    let early : nat_lt c.tick t ≡ true = point.0 0 c (omega arith) (omega arith) in
    let rest : i ≡ below t cs = below_at_point t cs i (omega arith) (λ k d low high. point.0 (suc k) d (omega arith) (omega arith), λ k d low high. point.1 (suc k) d (omega arith) (omega arith)) in
    rw early (ap suc rest)

pub below_length : (t : ℕ) (cs : List Change) → below t cs ≤ length cs
below_length t [] = omega arith
below_length t (c ∷ cs) = let rest : below t cs ≤ length cs = below_length t cs in grind (arith, nat_tests)

pub last_level_take : (before : Level) (cs : List Change) (i : ℕ) (d : Change) → i < length cs → last_level before (take (suc i) cs) ≡ (get_or cs i d).level
last_level_take before [] i d h = grind arith
last_level_take before (c ∷ cs) zero d h = refl
last_level_take before (c ∷ cs) (suc i) d h = last_level_take c.level cs i d (omega arith)

pub last_level_append : (before : Level) (cs ds : List Change) → last_level before (cs ++ ds) ≡ last_level (last_level before cs) ds
last_level_append before [] ds = refl
last_level_append before (c ∷ cs) ds = last_level_append c.level cs ds

pub same_level_refl : (a : Level) → same_level a a ≡ true
same_level_refl Zero = refl
same_level_refl One = refl
same_level_refl X = refl

pub same_level-same : (a b : Level) → a ≡ b → same_level a b ≡ true
same_level-same a b e = rw e (same_level_refl b)

-- two levels that the test tells apart differ
pub differs_of_test : (a b : Level) → same_level a b ≡ false → a ≢ b
differs_of_test a b h e = let same : same_level a b ≡ true = rw e (same_level_refl b) in cc

pub test_of_same : (a b : Level) → same_level a b ≡ true → a ≡ b
test_of_same Zero Zero h = refl
test_of_same One One h = refl
test_of_same X X h = refl
test_of_same _ _ h = cc

pub test_of_differs : (a b : Level) → a ≢ b → same_level a b ≡ false
test_of_differs a b h = by (cases_Bool (same_level a b))
  where
    by : (same_level a b ≡ true) ⊎ (same_level a b ≡ false) → same_level a b ≡ false
    by (inl e) = absurd (h (test_of_same a b e))
    by (inr e) = e

-- the order doesn't matter
pub same_level-sym : (a b : Level) → same_level a b ≡ same_level b a
same_level-sym a b = by (cases_Bool (same_level a b))
  where
    by : (same_level a b ≡ true) ⊎ (same_level a b ≡ false) → same_level a b ≡ same_level b a
    by (inl e) = e ∙ sym (same_level-same b a (sym (test_of_same a b e)))
    by (inr e) = e ∙ sym (test_of_differs b a (λ same. differs_of_test a b e (sym same)))

-- the three tests of a piece's list give what a piece keeps
trace_of_tests : (c : Change) (cs : List Change) (low high : ℕ) → rises (c ∷ cs) ≡ true → inside low high (c ∷ cs) ≡ true → differs (c ∷ cs) ≡ true → IsTrace c.level (suc c.tick) cs high
trace_of_tests c [] low high r i d = grind (arith, nat_tests)
trace_of_tests c (e ∷ cs) low high r i d =
    let rise : (nat_lt c.tick e.tick ≡ true) × (rises (e ∷ cs) ≡ true) = and_parts _ _ r in
    let within : ((nat_le low c.tick && nat_lt c.tick high) ≡ true) × (inside low high (e ∷ cs) ≡ true) = and_parts _ _ i in
    let here : (not (same_level e.level c.level) ≡ true) × (differs (e ∷ cs) ≡ true) = and_parts _ _ d in
    let next : ((nat_le low e.tick && nat_lt e.tick high) ≡ true) × (inside low high cs ≡ true) = and_parts _ _ within.1 in
    let unlike : same_level e.level c.level ≡ false = grind arith in (
      grind (arith, nat_tests),
      grind (arith, nat_tests),
      differs_of_test e.level c.level unlike,
      trace_of_tests e cs low high rise.1 within.1 here.1,
    )

pub part_of_tests : (low high : ℕ) (cs : List Change) → low < high → rises cs ≡ true → inside low high cs ≡ true → differs cs ≡ true → IsPart low cs high
part_of_tests low high [] h r i d = h
part_of_tests low high (c ∷ cs) h r i d =
    let within : ((nat_le low c.tick && nat_lt c.tick high) ≡ true) × (inside low high cs ≡ true) = and_parts _ _ i in
    (grind (arith, nat_tests), grind (arith, nat_tests), trace_of_tests c cs low high r i d)

pub rises_lower : (low least : ℕ) (cs : List Change) → low ≤ least → Rises least cs → Rises low cs
rises_lower low least [] h r = tt
rises_lower low least (c ∷ cs) h r = (omega (arith, r.0), r.1)

pub rises_of_trace : (before : Level) (low high : ℕ) (cs : List Change) → IsTrace before low cs high → Rises low cs
rises_of_trace before low high [] r = tt
rises_of_trace before low high (c ∷ cs) r = (r.0, rises_of_trace c.level (suc c.tick) high cs r.3)

pub rises_of_part : (low high : ℕ) (cs : List Change) → IsPart low cs high → Rises 0 cs
rises_of_part low high [] r = tt
rises_of_part low high (c ∷ cs) r = (omega arith, rises_of_trace c.level (suc c.tick) high cs r.2)

pub rises_of_wave : (before : Level) (low high : ℕ) (cs : List Change) → IsTrace before low cs high → Rises 0 cs
rises_of_wave before low high cs r = rises_lower 0 low cs (omega arith) (rises_of_trace before low high cs r)

pub trace_low : (before : Level) (low high : ℕ) (cs : List Change) → IsTrace before low cs high → low ≤ high
trace_low before low high [] r = r
trace_low before low high (c ∷ cs) r = omega (arith, r.0, r.1)

pub trace_widen : (before : Level) (low high more : ℕ) (cs : List Change) → high ≤ more → IsTrace before low cs high → IsTrace before low cs more
trace_widen before low high more [] h r = let low_high : low ≤ high = r in omega arith
trace_widen before low high more (c ∷ cs) h r =
    (r.0, omega (arith, r.1), r.2, trace_widen c.level (suc c.tick) high more cs h r.3)

pub trace_append : (before : Level) (low middle high : ℕ) (cs ds : List Change) → IsTrace before low cs middle → IsTrace (last_level before cs) middle ds high → IsTrace before low (cs ++ ds) high
trace_append before low middle high [] [] r q = let a : low ≤ middle = r in let b : middle ≤ high = q in omega arith
trace_append before low middle high [] (d ∷ ds) r q = let a : low ≤ middle = r in (omega (arith, q.0), q.1, q.2, q.3)
trace_append before low middle high (c ∷ cs) ds r q =
    let within : middle ≤ high = trace_low (last_level c.level cs) middle high ds q in
    (r.0, omega (arith, r.1), r.2, trace_append c.level (suc c.tick) middle high cs ds r.3 q)

-- what is left from a tick on is a trace from that tick on
pub trace_drop : (before : Level) (low from high : ℕ) (cs : List Change) → low ≤ from → from ≤ high → IsTrace before low cs high → IsTrace (last_level before (take (below from cs) cs)) from (drop (below from cs) cs) high
trace_drop before low from high [] h k r = k
trace_drop before low from high (c ∷ cs) h k r =
    elim (nat_lt c.tick from) as (λ b. nat_lt c.tick from ≡ b → IsTrace (last_level before (take (if b then suc (below from cs) else 0) (c ∷ cs))) from (drop (if b then suc (below from cs) else 0) (c ∷ cs)) high) [
      | true ↦ λ e. trace_drop c.level (suc c.tick) from high cs (grind (arith, nat_tests)) k r.3
      | false ↦ λ e. (grind (arith, nat_tests), r.1, r.2, r.3)
    ] refl

pub part_of_trace : (before : Level) (low high : ℕ) (cs : List Change) → low < high → IsTrace before low cs high → IsPart low cs high
part_of_trace before low high [] h r = h
part_of_trace before low high (c ∷ cs) h r = (r.0, r.1, r.3)

-- there is at most one change a tick
pub below_span : (before : Level) (low from high : ℕ) (cs : List Change) → low ≤ from → IsTrace before low cs high → below from cs + low ≤ from
below_span before low from high [] h r = omega arith
below_span before low from high (c ∷ cs) h r =
    elim (nat_lt c.tick from) as (λ b. nat_lt c.tick from ≡ b → (if b then suc (below from cs) else 0) + low ≤ from) [
      | true ↦ λ e.
          let rest : below from cs + suc c.tick ≤ from = below_span c.level (suc c.tick) from high cs (grind (arith, nat_tests)) r.3 in
          let first : low ≤ c.tick = r.0 in
          omega arith
      | false ↦ λ e. omega arith
    ] refl

pub length_span : (before : Level) (low high : ℕ) (cs : List Change) → IsTrace before low cs high → length cs + low ≤ high
length_span before low high [] r = let a : low ≤ high = r in omega arith
length_span before low high (c ∷ cs) r =
    let rest : length cs + suc c.tick ≤ high = length_span c.level (suc c.tick) high cs r.3 in
    let first : low ≤ c.tick = r.0 in
    omega arith

-- the level at a tick is that after the changes that don't stand above it
pub level_at_below : (before : Level) (t : ℕ) (cs : List Change) → level_at before cs t ≡ last_level before (take (below (suc t) cs) cs)
level_at_below before t [] = refl
level_at_below before t (c ∷ cs) =
    elim (nat_le c.tick t) as (λ b. nat_le c.tick t ≡ b → (if b then level_at c.level cs t else before) ≡ last_level before (take (below (suc t) (c ∷ cs)) (c ∷ cs))) [
      | true ↦ λ e. let f : nat_lt c.tick (suc t) ≡ true = grind (arith, nat_tests) in rw f (level_at_below c.level t cs)
      | false ↦ λ e. let f : nat_lt c.tick (suc t) ≡ false = grind (arith, nat_tests) in rw f refl
    ] refl

pub part_drop : (low from high : ℕ) (cs : List Change) → low ≤ from → from < high → IsPart low cs high → IsPart from (drop (below from cs) cs) high
part_drop low from high [] h k r = k
part_drop low from high (c ∷ cs) h k r =
    elim (nat_lt c.tick from) as (λ b. nat_lt c.tick from ≡ b → IsPart from (drop (if b then suc (below from cs) else 0) (c ∷ cs)) high) [
      | true ↦ λ e.
          part_of_trace (last_level c.level (take (below from cs) cs)) from high (drop (below from cs) cs) k
          (trace_drop c.level (suc c.tick) from high cs (grind (arith, nat_tests)) (omega arith) r.2)
      | false ↦ λ e. (grind (arith, nat_tests), r.1, r.2)
    ] refl

pub trace_of_part : (before : Level) (low high : ℕ) (cs : List Change) → IsPart low cs high → clash before cs ≡ None → IsTrace before low cs high
trace_of_part before low high [] r h = let a : low < high = r in omega arith
trace_of_part before low high (c ∷ cs) r h =
    elim (same_level c.level before) as (λ b. same_level c.level before ≡ b → (if b then Some c.tick else None) ≡ None → IsTrace before low (c ∷ cs) high) [
      | true ↦ λ e q. cc
      | false ↦ λ e q. (r.0, r.1, differs_of_test c.level before e, r.2)
    ] refl h

-- in a list that rises, what stands below a tick is at the head
pub below_zero : (low tick : ℕ) (cs : List Change) → tick ≤ low → Rises low cs → (at_or_after tick cs ≡ cs) × (changes_below tick cs ≡ [])
below_zero low tick [] h r = (refl, refl)
below_zero low tick (c ∷ cs) h r =
    let rest : (at_or_after tick cs ≡ cs) × (changes_below tick cs ≡ []) = below_zero (suc c.tick) tick cs (omega (arith, r.0)) r.1 in
    let late : nat_le tick c.tick ≡ true = le-leb tick c.tick (omega (arith, r.0)) in
    let not_early : nat_lt c.tick tick ≡ false = le-ltb c.tick tick (omega (arith, r.0)) in
    (rw (late, rest.0), rw (not_early, rest.1))

pub split_below : (low tick : ℕ) (cs : List Change) → Rises low cs → (drop (below tick cs) cs ≡ at_or_after tick cs) × (take (below tick cs) cs ≡ changes_below tick cs)
split_below low tick [] r = (refl, refl)
split_below low tick (c ∷ cs) r = go (cases_lt c.tick tick) (split_below (suc c.tick) tick cs r.1)
  where
    go : (c.tick < tick) ⊎ (tick ≤ c.tick) → (drop (below tick cs) cs ≡ at_or_after tick cs) × (take (below tick cs) cs ≡ changes_below tick cs) → (drop (below tick (c ∷ cs)) (c ∷ cs) ≡ at_or_after tick (c ∷ cs)) × (take (below tick (c ∷ cs)) (c ∷ cs) ≡ changes_below tick (c ∷ cs))
    go (inl early) rest =
        let a : nat_lt c.tick tick ≡ true = lt-ltb c.tick tick early in
        let b : nat_le tick c.tick ≡ false = lt-leb tick c.tick early in
        (rw (a, b) rest.0, rw (a, rest.1))
    go (inr late) rest =
        let a : nat_lt c.tick tick ≡ false = le-ltb c.tick tick late in
        let none : (at_or_after tick (c ∷ cs) ≡ c ∷ cs) × (changes_below tick (c ∷ cs) ≡ []) = below_zero tick tick (c ∷ cs) (omega arith) (late, r.1) in
        (rw a (sym none.0), rw a (sym (below_zero (suc c.tick) tick cs (omega arith) r.1).1))

pub drop_below : (low tick : ℕ) (cs : List Change) → Rises low cs → drop (below tick cs) cs ≡ at_or_after tick cs
drop_below low tick cs r = (split_below low tick cs r).0

pub take_below : (low tick : ℕ) (cs : List Change) → Rises low cs → take (below tick cs) cs ≡ changes_below tick cs
take_below low tick cs r = (split_below low tick cs r).1

-- the same facts in the words of contracts
pub trace_from : (before : Level) (low from high : ℕ) (cs : List Change) → low ≤ from → from ≤ high → IsTrace before low cs high → IsTrace (last_level before (changes_below from cs)) from (at_or_after from cs) high
trace_from before low from high cs h k r =
    let rises : Rises low cs = rises_of_trace before low high cs r in
    rw (sym (drop_below low from cs rises), sym (take_below low from cs rises)) (trace_drop before low from high cs h k r)

pub part_from : (low from high : ℕ) (cs : List Change) → low ≤ from → from < high → IsPart low cs high → IsPart from (at_or_after from cs) high
part_from low from high cs h k r =
    rw (sym (drop_below 0 from cs (rises_of_part low high cs r))) (part_drop low from high cs h k r)

-- a slice from the first change at or after a tick
pub slice_from : (low tick count : ℕ) (cs : List Change) → Rises low cs → count ≡ below tick cs → take (length cs - count) (drop count cs) ≡ at_or_after tick cs
slice_from low tick count cs r e =
    rw e (take_all (length cs - below tick cs) (drop (below tick cs) cs) (omega (arith, length-drop (below tick cs) cs)) ∙ drop_below low tick cs r)

-- all changes stand below the clock
pub last_level_told : (kept : Level) (low high tick : ℕ) (cs : List Change) → IsTrace kept low cs high → high ≤ suc tick → level_at kept cs tick ≡ last_level kept cs
last_level_told kept low high tick [] r h = refl
last_level_told kept low high tick (c ∷ cs) r h =
    let e : nat_le c.tick tick ≡ true = le-leb c.tick tick (omega (arith, r.1)) in
    rw e (last_level_told c.level (suc c.tick) high tick cs r.3 h)

pub last_before : (kept : Level) (low high : ℕ) (cs : List Change) → IsTrace kept low cs high → (low ≡ 0 → kept ≡ X) → last_level kept cs ≡ level_before (level_at kept cs) high
last_before kept low zero [] r first = first (let low_high : low ≤ 0 = r in omega arith)
last_before kept low zero (c ∷ cs) r first = absurd (omega (arith, r.1))
last_before kept low (suc tick) cs r first = sym (last_level_told kept low (suc tick) tick cs r (omega arith))

-- a slice of all from a place on
pub rest_of_list : (first : ℕ) (cs : List Change) → take (length cs - first) (drop first cs) ≡ drop first cs
rest_of_list first cs = take_all (length cs - first) (drop first cs) (omega (arith, length-drop first cs))

-- what is left of a rising list whose head was forgotten, once more of it is
pub forgotten_head : (low tick first count : ℕ) (cs : List Change) → Rises low (drop first cs) → count ≡ below tick (drop first cs) → drop (first + count) cs ≡ at_or_after tick (drop first cs)
forgotten_head low tick first count cs r e = sym (drop-drop count first cs) ∙ rw e (drop_below low tick (drop first cs) r)

-- it goes on by what continues it
pub extended_trace : (before : Level) (low middle high first : ℕ) (cs ds : List Change) → first ≤ length cs → IsTrace before low (drop first cs) middle → IsTrace (last_level before (drop first cs)) middle ds high → IsTrace before low (drop first (cs ++ ds)) high
extended_trace before low middle high first cs ds h r q = rw (drop-append-le first cs ds h) (trace_append before low middle high (drop first cs) ds r q)

-- and it stays a trace where more of its head is forgotten
pub forgotten_trace : (before : Level) (low from high first count : ℕ) (cs : List Change) → low ≤ from → from ≤ high → count ≡ below from (drop first cs) → IsTrace before low (drop first cs) high → IsTrace (last_level before (take count (drop first cs))) from (drop (first + count) cs) high
forgotten_trace before low from high first count cs h k e r =
    rw (sym (drop-drop count first cs), e) (trace_drop before low from high (drop first cs) h k r)

-- nothing stands below tick 0
pub below_none_at_zero : (cs : List Change) → below 0 cs ≡ 0
below_none_at_zero [] = refl
below_none_at_zero (c ∷ cs) = let late : nat_lt c.tick 0 ≡ false = le-ltb c.tick 0 (omega arith) in rw late refl

pub forgotten_first : (before : Level) (low from count : ℕ) (cs : List Change) → low ≤ from → count ≡ below from cs → (low ≡ 0 → before ≡ X) → from ≡ 0 → last_level before (take count cs) ≡ X
forgotten_first before low from count cs h e first start =
    let none : count ≡ 0 = rw start at e ∙ below_none_at_zero cs in
    rw none (first (omega arith))
