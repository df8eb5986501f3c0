-- The changes of a function of the tick.
use Rattle.std.proofs.Common.{◌≡◌, ℕ, zero, suc, ◌+◌, ◌-◌, ◌<◌, ◌≤◌, ◌&&◌, Bool, cond, nat_lt, not, true, false, List, [], ◌∷◌, ◌++◌, if◌then◌else◌, refl, sym, ◌∙◌, ap, arith}
use Rattle.std.proofs.lemmas.Bool.{ltb-false, ltb-true}
use Rattle.std.proofs.lemmas.List.{append-nil}
use Rattle.cmb_wave.specs.declared.level.Level.{Level}
use Rattle.cmb_wave.specs.declared.level.Change.{Change}
use Rattle.cmb_wave.specs.Waveform.{same_level, last_level, IsTrace}
use Rattle.cmb_core_cluster.specs.Inner.Spans.{changes_from}
use Rattle.cmb_wave.proofs.Lists.{same_level_refl, test_of_same, differs_of_test}

-- the changes of more ticks are those of the first ones, and then the others'
pub changes_from_add : (f : ℕ → Level) (before : Level) (first n m : ℕ) → changes_from f before first (n + m) ≡ changes_from f before first n ++ changes_from f (last_level before (changes_from f before first n)) (first + n) m
changes_from_add f before first zero m =
    let e : 0 + m ≡ m = omega arith in
    let k : first + 0 ≡ first = omega arith in
    rw (e, k) refl
changes_from_add f before first (suc n) m =
    let e : suc n + m ≡ suc (n + m) = omega arith in
    let k : first + suc n ≡ suc first + n = omega arith in
    rw (e, k)
    (elim (same_level (f first) before) as (λ b.
    (if b then changes_from f before (suc first) (n + m) else record { tick = first; level = f first } ∷ changes_from f (f first) (suc first) (n + m))
    ≡ (if b then changes_from f before (suc first) n else record { tick = first; level = f first } ∷ changes_from f (f first) (suc first) n)
    ++ changes_from f (last_level before (if b then changes_from f before (suc first) n else record { tick = first; level = f first } ∷ changes_from f (f first) (suc first) n)) (suc first + n) m) [
      | true ↦ changes_from_add f before (suc first) n m
      | false ↦ ap (λ cs. record { tick = first; level = f first } ∷ cs) (changes_from_add f (f first) (suc first) n m)
    ])

-- a function that stays at the level before it has no change
pub changes_from_still : (f : ℕ → Level) (before : Level) (first n : ℕ) → ((t : ℕ) → first ≤ t → t < first + n → f t ≡ before) → changes_from f before first n ≡ []
changes_from_still f before first zero h = refl
changes_from_still f before first (suc n) h =
    let e : f first ≡ before = h first (omega arith) (omega arith) in
    rw (e, same_level_refl before) (changes_from_still f before (suc first) n (λ t low high. h t (omega arith) (omega arith)))

-- a function that stays has at most one change
pub changes_from_steady : (f : ℕ → Level) (before level : Level) (first n : ℕ) → ((t : ℕ) → first ≤ t → t < first + suc n → f t ≡ level) → changes_from f before first (suc n) ≡ (if same_level level before then [] else (record { tick = first; level = level } ∷ []))
changes_from_steady f before level first n h =
    let e : f first ≡ level = h first (omega arith) (omega arith) in
    let others : (t : ℕ) → suc first ≤ t → t < suc first + n → f t ≡ level = λ t low high. h t (omega arith) (omega arith) in
    rw e (elim (same_level level before) as (λ b. same_level level before ≡ b →
    (if b then changes_from f before (suc first) n else record { tick = first; level = level } ∷ changes_from f level (suc first) n)
    ≡ (if b then [] else (record { tick = first; level = level } ∷ []))) [
      | true ↦ λ same. changes_from_still f before (suc first) n (λ t low high. others t low high ∙ test_of_same level before same)
      | false ↦ λ same. ap (λ cs. record { tick = first; level = level } ∷ cs) (changes_from_still f level (suc first) n others)
    ] refl)

-- what a turn adds to the changes
pub turn_changes : (f : ℕ → Level) (before last level : Level) (from now next : ℕ) → from ≤ now → now < next → last ≡ last_level before (changes_from f before from (now - from)) → ((t : ℕ) → now ≤ t → t < next → f t ≡ level) → changes_from f before from (next - from) ≡ changes_from f before from (now - from) ++ (if same_level level last then [] else (record { tick = now; level = level } ∷ []))
turn_changes f before last level from now next h k e steady =
    let split : next - from ≡ (now - from) + suc (next - now - 1) = omega arith in
    let start : from + (now - from) ≡ now = omega arith in
    rw (split, changes_from_add f before from (now - from) (suc (next - now - 1)), sym e, start)
    (ap (λ cs. changes_from f before from (now - from) ++ cs)
    (changes_from_steady f last level now (next - now - 1) (λ t low high. steady t low (omega arith))))

pub last_level_push : (before : Level) (cs : List Change) (c : Change) → last_level before (cs ++ c ∷ []) ≡ c.level
last_level_push before [] c = refl
last_level_push before (d ∷ ds) c = last_level_push d.level ds c

pub push_turn : (f : ℕ → Level) (before last level : Level) (from now next : ℕ) → from ≤ now → now < next → last ≡ last_level before (changes_from f before from (now - from)) → ((t : ℕ) → now ≤ t → t < next → f t ≡ level) → same_level level last ≡ false → changes_from f before from (next - from) ≡ changes_from f before from (now - from) ++ record { tick = now; level = level } ∷ []
push_turn f before last level from now next h k e steady unlike =
    rw unlike at (turn_changes f before last level from now next h k e steady)

pub skip_turn : (f : ℕ → Level) (before last level : Level) (from now next : ℕ) → from ≤ now → now < next → last ≡ last_level before (changes_from f before from (now - from)) → ((t : ℕ) → now ≤ t → t < next → f t ≡ level) → same_level level last ≡ true → changes_from f before from (next - from) ≡ changes_from f before from (now - from)
skip_turn f before last level from now next h k e steady alike =
    (rw alike at (turn_changes f before last level from now next h k e steady)) ∙ append-nil (changes_from f before from (now - from))

pub left_push : (before : Level) (cs ds : List Change) (c : Change) → cs ≡ ds ++ c ∷ [] → c.level ≡ last_level before cs
left_push before cs ds c e = rw e (sym (last_level_push before ds c))

-- functions that agree on the span have the same changes in it
pub changes_from_same : (f g : ℕ → Level) (before : Level) (first n : ℕ) → ((t : ℕ) → first ≤ t → t < first + n → f t ≡ g t) → changes_from f before first n ≡ changes_from g before first n
changes_from_same f g before first zero h = refl
changes_from_same f g before first (suc n) h =
    let e : f first ≡ g first = h first (omega arith) (omega arith) in
    let others : (t : ℕ) → suc first ≤ t → t < suc first + n → f t ≡ g t = λ t low high. h t (omega arith) (omega arith) in
    rw (e, changes_from_same f g before (suc first) n others, changes_from_same f g (g first) (suc first) n others) refl

-- two spans, one after the other
pub changes_from_spans : (f g h : ℕ → Level) (before : Level) (first middle last : ℕ) → first ≤ middle → middle ≤ last
    → ((t : ℕ) → first ≤ t → t < middle → g t ≡ f t)
    → ((t : ℕ) → middle ≤ t → t < last → h t ≡ f t)
    → changes_from g before first (middle - first) ++ changes_from h (last_level before (changes_from g before first (middle - first))) middle (last - middle)
    ≡ changes_from f before first (last - first)
changes_from_spans f g h before first middle last a b sameg sameh =
    let split : last - first ≡ (middle - first) + (last - middle) = omega arith in
    let start : first + (middle - first) ≡ middle = omega arith in
    let eg : changes_from g before first (middle - first) ≡ changes_from f before first (middle - first) =
    changes_from_same g f before first (middle - first) (λ t low high. sameg t low (omega arith))
    in
    let eh : (k : Level) → changes_from h k middle (last - middle) ≡ changes_from f k middle (last - middle) =
    λ k. changes_from_same h f k middle (last - middle) (λ t low high. sameh t low (omega arith))
    in
    rw (eg, eh (last_level before (changes_from f before first (middle - first))), split, changes_from_add f before first (middle - first) (last - middle), start) refl

-- changes that begin later begin earlier too
pub trace_lower : (before : Level) (low from high : ℕ) (cs : List Change) → low ≤ from → IsTrace before from cs high → IsTrace before low cs high
trace_lower before low from high [] h r = let a : from ≤ high = r in omega arith
trace_lower before low from high (c ∷ cs) h r = (omega (arith, r.0), r.1, r.2, r.3)

-- the changes of a function are a trace
pub trace_of_changes : (f : ℕ → Level) (before : Level) (first n : ℕ) → IsTrace before first (changes_from f before first n) (first + n)
trace_of_changes f before first zero = omega arith
trace_of_changes f before first (suc n) =
    let e : first + suc n ≡ suc first + n = omega arith in
    rw e (elim (same_level (f first) before) as (λ b. same_level (f first) before ≡ b →
    IsTrace before first (if b then changes_from f before (suc first) n else record { tick = first; level = f first } ∷ changes_from f (f first) (suc first) n) (suc first + n)) [
      | true ↦ λ same. trace_lower before first (suc first) (suc first + n) _ (omega arith) (trace_of_changes f before (suc first) n)
      | false ↦ λ unlike. (omega arith, omega arith, differs_of_test (f first) before unlike, trace_of_changes f (f first) (suc first) n)
    ] refl)

-- one that stays at a level has its only change, if any, at the head
abbrev pub head : ℕ → Level → List Change
head tick level = record { tick = tick; level = level } ∷ []

pub changes_from_held : (f : ℕ → Level) (before level : Level) (from until : ℕ) → from ≤ until → ((t : ℕ) → from ≤ t → f t ≡ level)
    → changes_from f before from (until - from) ≡ cond (nat_lt from until && not (same_level level before)) (head from level) []
changes_from_held f before level from until order h = go (nat_lt from until) refl
  where
    turned : (b : Bool) → cond b [] (head from level) ≡ cond (true && not b) (head from level) []
    turned true = refl
    turned false = refl

    go : (b : Bool) → nat_lt from until ≡ b → changes_from f before from (until - from) ≡ cond (b && not (same_level level before)) (head from level) []
    go true e =
        let some : from < until = ltb-true from until e in
        let many : until - from ≡ suc (until - from - 1) = omega (arith, some) in
        rw many (changes_from_steady f before level from (until - from - 1) (λ t low high. h t low) ∙ turned (same_level level before))
    go false e =
        let none : until - from ≡ 0 = omega (arith, ltb-false from until e) in
        rw none refl
