-- The changes of rows that rise.
use Rattle.std.proofs.Common.{◌++◌, append_assoc, ◌≡◌, ◌≢◌, ◌≤◌, ◌<◌, ◌+◌, ℕ, zero, suc, List, [], ◌∷◌, Option, None, map, true, false, Bool, refl, sym, ap, arith, ◌∙◌, cond, add-one, ⊎_elim}
use Rattle.std.specs.Prelude.{◌==◌, ◌&&◌, not, nat_le, nat_lt, unwrap_or, if◌then◌else◌}
use Rattle.std.proofs.lemmas.Bool.{cases_lt}
use Rattle.std.proofs.lemmas.Bool.Decides.{nat_tests}
use Rattle.std.specs.Ordering.{is_eq, nat_cmp}
use Rattle.std.specs.List.{AllByRecursion}
use Rattle.std.specs.List.Sorted.{IsStrictlySortedBy}
use Rattle.std.specs.BTreeMap.{BTreeMap, IsOrdered, get, is_at}
use Rattle.std.specs.Map.{lookup}
use Rattle.std.proofs.Common.{Equal, Greater, Less}
use Rattle.cmb_wave.specs.declared.level.Level.{Level}
use Rattle.cmb_wave.specs.declared.level.Level.TheVariants as level
use Rattle.cmb_wave.specs.declared.level.Change.{Change}
use Rattle.cmb_wave.specs.Waveform.{changes_between, level_at, same_level}
use Rattle.cmb_wave.proofs.Lists.{differs_of_test, same_level_refl, test_of_differs, test_of_same}
use Rattle.cmb_wave.proofs.Spans.{Alternates, RisesWithin}
use Rattle.cmb_wave.proofs.Waveforms.{changes_between-unique}
use Rattle.cmb_design_model.specs.Timing.{level_by}
use Rattle.cmb_design_model.specs.Inner.RowLevels.{Rises, Row, row_in}

-- changes from a tick on and below another, each to another level than the one before
unfoldable pub IsWave : Level → ℕ → ℕ → List Change → Type 0
IsWave before low high [] = Unit {0}
IsWave before low high (c ∷ cs) = (low ≤ c.tick) × (c.tick < high) × (c.level ≢ before) × IsWave c.level (c.tick + 1) high cs

wave-rises : (b : Level) (low high : ℕ) (cs : List Change) → IsWave b low high cs → RisesWithin low high cs
unfolding IsWave
wave-rises b low high [] w = tt
wave-rises b low high (c ∷ cs) w = (w.0, w.1, rw add-one at (wave-rises c.level (c.tick + 1) high cs w.3))

wave-alternates : (b : Level) (low high : ℕ) (cs : List Change) → IsWave b low high cs → Alternates b cs
unfolding IsWave
wave-alternates b low high [] w = tt
wave-alternates b low high (c ∷ cs) w = (w.2, wave-alternates c.level (c.tick + 1) high cs w.3)

level_from-early : (b : Level) (low high t : ℕ) (cs : List Change) → IsWave b low high cs → t < low → level_at b cs t ≡ b
unfolding IsWave
level_from-early b low high t [] w h = refl
level_from-early b low high t (c ∷ cs) w h =
    let first : low ≤ c.tick = w.0 in
    let e : nat_le c.tick t ≡ false = grind (arith, nat_tests) in
    rw e refl

-- the changes that rows make below a tick
unfoldable pub keep : ℕ → Level → List Row → List Change
keep high b [] = []
keep high b (p ∷ ps) = if nat_lt p.0 high && not (same_level p.1 b) then record { tick = p.0; level = p.1 } ∷ keep high p.1 ps else keep high b ps

IsWave-lower : (b : Level) (low up high : ℕ) (cs : List Change) → low ≤ up → IsWave b up high cs → IsWave b low high cs
unfolding IsWave
IsWave-lower b low up high [] h w = tt
IsWave-lower b low up high (c ∷ cs) h w = (omega (arith, w.0), w.1, w.2, w.3)

pub keep-wave : (high : ℕ) (b : Level) (low : ℕ) (ps : List Row) → Rises low ps → IsWave b low high (keep high b ps)
unfolding keep IsWave
keep-wave high b low [] r = tt
keep-wave high b low (p ∷ ps) r = by (nat_lt p.0 high) refl (same_level p.1 b) refl (keep-wave high p.1 (p.0 + 1) ps r.1) (keep-wave high b (p.0 + 1) ps r.1)
  where
    by : (x : Bool) → nat_lt p.0 high ≡ x → (y : Bool) → same_level p.1 b ≡ y → IsWave p.1 (p.0 + 1) high (keep high p.1 ps) → IsWave b (p.0 + 1) high (keep high b ps)
        → IsWave b low high (cond (x && not y) (record { tick = p.0; level = p.1 } ∷ keep high p.1 ps) (keep high b ps))
    by true e true f kept dropped = IsWave-lower b low (p.0 + 1) high _ (omega (arith, r.0)) dropped
    by true e false f kept dropped = (r.0, grind (arith, nat_tests), differs_of_test p.1 b f, kept)
    by false e true f kept dropped = IsWave-lower b low (p.0 + 1) high _ (omega (arith, r.0)) dropped
    by false e false f kept dropped = IsWave-lower b low (p.0 + 1) high _ (omega (arith, r.0)) dropped

-- the level of rows at a tick
unfoldable pub value_from : Level → List Row → ℕ → Level
value_from b [] t = b
value_from b (p ∷ ps) t = if nat_le p.0 t then value_from p.1 ps t else b

pub keep-level : (high t : ℕ) (b : Level) (low : ℕ) (ps : List Row) → t < high → Rises low ps → level_at b (keep high b ps) t ≡ value_from b ps t
unfolding keep value_from
keep-level high t b low [] h r = refl
keep-level high t b low (p ∷ ps) h r =
    by (nat_lt p.0 high) refl (same_level p.1 b) refl (keep-level high t p.1 (p.0 + 1) ps h r.1) (keep-level high t b (p.0 + 1) ps h r.1) (keep-wave high b (p.0 + 1) ps r.1)
  where
    by : (x : Bool) → nat_lt p.0 high ≡ x → (y : Bool) → same_level p.1 b ≡ y
        → level_at p.1 (keep high p.1 ps) t ≡ value_from p.1 ps t → level_at b (keep high b ps) t ≡ value_from b ps t → IsWave b (p.0 + 1) high (keep high b ps)
        → level_at b (cond (x && not y) (record { tick = p.0; level = p.1 } ∷ keep high p.1 ps) (keep high b ps)) t ≡ cond (nat_le p.0 t) (value_from p.1 ps t) b
    by true e false f kept dropped w = rw kept refl
    by true e true f kept dropped w = stay (nat_le p.0 t) refl
      where
        stay : (z : Bool) → nat_le p.0 t ≡ z → level_at b (keep high b ps) t ≡ cond z (value_from p.1 ps t) b
        stay true g = dropped ∙ ap (λ l. value_from l ps t) (sym (test_of_same p.1 b f))
        stay false g = level_from-early b (p.0 + 1) high t (keep high b ps) w (grind (arith, nat_tests))
    by false e true f kept dropped w = let no : nat_le p.0 t ≡ false = grind (arith, nat_tests) in rw no (level_from-early b (p.0 + 1) high t (keep high b ps) w (grind (arith, nat_tests)))
    by false e false f kept dropped w = let no : nat_le p.0 t ≡ false = grind (arith, nat_tests) in rw no (level_from-early b (p.0 + 1) high t (keep high b ps) w (grind (arith, nat_tests)))

value_from-early : (b : Level) (low t : ℕ) (ps : List Row) → Rises low ps → t < low → value_from b ps t ≡ b
unfolding value_from
value_from-early b low t [] r h = refl
value_from-early b low t (p ∷ ps) r h = let i : low ≤ p.0 = r.0 in let no : nat_le p.0 t ≡ false = grind (arith, nat_tests) in rw no refl

row_in-early : (low t : ℕ) (ps : List Row) → Rises low ps → t < low → row_in ps t ≡ None
unfolding row_in
row_in-early low t [] r h = refl
row_in-early low t (p ∷ ps) r h = let i : low ≤ p.0 = r.0 in let no : (p.0 == t) ≡ false = grind (arith, nat_tests) in rw no (row_in-early (p.0 + 1) t ps r.1 (omega arith))

-- from one tick to the next a row decides, or the level stays
value_from-zero : (b : Level) (low : ℕ) (ps : List Row) → Rises low ps → value_from b ps 0 ≡ unwrap_or (row_in ps 0) b
unfolding value_from row_in
value_from-zero b low [] r = refl
value_from-zero b low (p ∷ ps) r = ⊎_elim
    (λ (h : 0 < p.0).
    let a : nat_le p.0 0 ≡ false = grind (arith, nat_tests) in
    let e : (p.0 == 0) ≡ false = grind (arith, nat_tests) in
    rw (a, e, row_in-early (p.0 + 1) 0 ps r.1 (omega arith)) refl)
    (λ (h : p.0 ≤ 0).
    let a : nat_le p.0 0 ≡ true = grind (arith, nat_tests) in
    let e : (p.0 == 0) ≡ true = grind (arith, nat_tests) in
    rw (a, e) (value_from-early p.1 (p.0 + 1) 0 ps r.1 (omega arith)))
    (cases_lt 0 p.0)

value_from-next : (b : Level) (low t : ℕ) (ps : List Row) → Rises low ps → value_from b ps (suc t) ≡ unwrap_or (row_in ps (suc t)) (value_from b ps t)
unfolding value_from row_in
value_from-next b low t [] r = refl
value_from-next b low t (p ∷ ps) r =
    let more = value_from-next p.1 (p.0 + 1) t ps r.1 in
    ⊎_elim
    (λ (h : p.0 < suc t).
    let a : nat_le p.0 (suc t) ≡ true = grind (arith, nat_tests) in
    let d : nat_le p.0 t ≡ true = grind (arith, nat_tests) in
    let e : (p.0 == suc t) ≡ false = grind (arith, nat_tests) in
    rw (a, d, e) more)
    (λ (h : suc t ≤ p.0). ⊎_elim
    (λ (g : suc t < p.0).
    let a : nat_le p.0 (suc t) ≡ false = grind (arith, nat_tests) in
    let d : nat_le p.0 t ≡ false = grind (arith, nat_tests) in
    let e : (p.0 == suc t) ≡ false = grind (arith, nat_tests) in
    rw (a, d, e, row_in-early (p.0 + 1) (suc t) ps r.1 (omega arith)) refl)
    (λ (g : p.0 ≤ suc t).
    let a : nat_le p.0 (suc t) ≡ true = grind (arith, nat_tests) in
    let e : (p.0 == suc t) ≡ true = grind (arith, nat_tests) in
    rw (a, e) (value_from-early p.1 (p.0 + 1) (suc t) ps r.1 (omega arith)))
    (cases_lt (suc t) p.0))
    (cases_lt p.0 (suc t))

-- the level of rising rows is the level by the row at each tick
pub value_from-is : (ps : List Row) (row_at : ℕ → Option Level) → Rises 0 ps → ((t : ℕ) → row_at t ≡ row_in ps t) → (t : ℕ) → value_from level.X ps t ≡ level_by row_at t
unfolding level_by
value_from-is ps row_at r h zero = rw (h 0) (value_from-zero level.X 0 ps r)
value_from-is ps row_at r h (suc t) = rw (h (suc t), ← value_from-is ps row_at r h t) (value_from-next level.X 0 t ps r)

-- what is kept of rising rows is the changes of their level
pub keep-changes : (high : ℕ) (ps : List Row) (row_at : ℕ → Option Level) → Rises 0 ps → ((t : ℕ) → row_at t ≡ row_in ps t) → keep high level.X ps ≡ changes_between (level_by row_at) 0 high
keep-changes high ps row_at r h =
    let w = keep-wave high level.X 0 ps r in
    changes_between-unique (level_by row_at) 0 high (keep high level.X ps) (omega arith) (wave-rises level.X 0 high _ w) (wave-alternates level.X 0 high _ w)
    (λ t low top. keep-level high t level.X 0 ps top r ∙ value_from-is ps row_at r h t)

-- the entries of a map in order
nat_less : (a b : ℕ) → nat_cmp a b ≡ Less → a + 1 ≤ b
nat_less a b h = ⊎_elim (λ (g : a < b). omega arith)
    (λ (g : b ≤ a). absurd (⊎_elim
    (λ (k : b < a).
    let x : nat_lt a b ≡ false = grind (arith, nat_tests) in let y : (a == b) ≡ false = grind (arith, nat_tests) in
    let z : Greater ≡ Less = rw (x, y) at h in cc z)
    (λ (k : a ≤ b).
    let e : a ≡ b = omega arith in
    let x : nat_lt b b ≡ false = grind (arith, nat_tests) in let y : (b == b) ≡ true = grind (arith, nat_tests) in
    let z : Equal ≡ Less = rw (e, x, y) at h in cc z)
    (cases_lt b a)))
    (cases_lt a b)

all_above : (n : ℕ) (ks : List ℕ) → AllByRecursion (λ y. nat_cmp n y ≡ Less) ks → AllByRecursion (λ y. n + 1 ≤ y) ks
all_above n [] h = tt
all_above n (k ∷ ks) h = (nat_less n k h.0, all_above n ks h.1)

rises_from : (low : ℕ) (ps : List Row) → IsStrictlySortedBy nat_cmp (map (λ p. p.0) ps) → AllByRecursion (λ y. low ≤ y) (map (λ p. p.0) ps) → Rises low ps
unfolding IsStrictlySortedBy
rises_from low [] s w = tt
rises_from low (p ∷ ps) s w = (w.0, rises_from (p.0 + 1) ps s.1 (all_above p.0 (map (λ p. p.0) ps) s.0))

all_from_zero : (ks : List ℕ) → AllByRecursion (λ y. 0 ≤ y) ks
all_from_zero [] = tt
all_from_zero (k ∷ ks) = (omega arith, all_from_zero ks)

pub rises : (ps : List Row) → IsStrictlySortedBy nat_cmp (map (λ p. p.0) ps) → Rises 0 ps
rises ps s = rises_from 0 ps s (all_from_zero (map (λ p. p.0) ps))

test_is : (t n : ℕ) → is_eq (nat_cmp t n) ≡ (n == t)
test_is t n = ⊎_elim
    (λ (h : t < n). let a : nat_lt t n ≡ true = grind (arith, nat_tests) in let b : (n == t) ≡ false = grind (arith, nat_tests) in rw (a, b) refl)
    (λ (h : n ≤ t). ⊎_elim
    (λ (g : n < t).
    let a : nat_lt t n ≡ false = grind (arith, nat_tests) in let b : (t == n) ≡ false = grind (arith, nat_tests) in
    let d : (n == t) ≡ false = grind (arith, nat_tests) in rw (a, b, d) refl)
    (λ (g : t ≤ n).
    let e : n ≡ t = omega arith in
    let a : nat_lt t t ≡ false = grind (arith, nat_tests) in let b : (t == t) ≡ true = grind (arith, nat_tests) in rw (e, a, b) refl)
    (cases_lt n t))
    (cases_lt t n)

pub lookup_is : (ps : List Row) (t : ℕ) → lookup (is_at (nat_cmp t)) ps ≡ row_in ps t
unfolding row_in
lookup_is [] t = refl
lookup_is (p ∷ ps) t = rw (test_is t p.0, lookup_is ps t) refl

-- the changes of a map's rows
pub map_changes : (high : ℕ) (m : BTreeMap ℕ Level) → IsOrdered nat_cmp m → keep high level.X m.entries ≡ changes_between (level_by (get nat_cmp m)) 0 high
map_changes high m o = keep-changes high m.entries (get nat_cmp m) (rises m.entries o) (lookup_is m.entries)

-- one more row
pub keep-kept : (high : ℕ) (b : Level) (p : Row) (ps : List Row) → p.0 < high → p.1 ≢ b → keep high b (p ∷ ps) ≡ record { tick = p.0; level = p.1 } ∷ keep high p.1 ps
unfolding keep
keep-kept high b p ps h d = let a : nat_lt p.0 high ≡ true = grind (arith, nat_tests) in rw (a, test_of_differs p.1 b d) refl

pub keep-same : (high : ℕ) (b : Level) (p : Row) (ps : List Row) → p.1 ≡ b → keep high b (p ∷ ps) ≡ keep high b ps
unfolding keep
keep-same high b p ps e = let s : same_level p.1 b ≡ true = rw e (same_level_refl b) in by (nat_lt p.0 high) s
  where
    by : (x : Bool) → same_level p.1 b ≡ true → cond (x && not (same_level p.1 b)) (record { tick = p.0; level = p.1 } ∷ keep high p.1 ps) (keep high b ps) ≡ keep high b ps
    by true s = rw s refl
    by false s = refl

pub keep-late : (high : ℕ) (b : Level) (p : Row) (ps : List Row) → high ≤ p.0 → keep high b (p ∷ ps) ≡ keep high b ps
unfolding keep
keep-late high b p ps h = let a : nat_lt p.0 high ≡ false = grind (arith, nat_tests) in rw a refl

pub push-rest : {X : Type 0} (old new piece rest all : List X) → new ≡ old ++ piece → old ++ (piece ++ rest) ≡ all → new ++ rest ≡ all
push-rest old new piece rest all e h = rw e (append_assoc old piece rest ∙ h)
