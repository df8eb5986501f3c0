-- Bits that are carried on from each arrival over the places that follow it, while the number of these places grows.
use Rattle.std.proofs.Common.{◌≡◌, ℕ, zero, suc, ◌+◌, ◌-◌, ◌*◌, ◌/◌, ◌%◌, ◌^◌, ◌<◌, ◌≤◌, min, max, true, false, Bool, ◌&&◌, if◌then◌else◌, nat_le, refl, sym, ap, ap₂, ◌∙◌, ⊎_elim, arith, true≢false, mod-lt, mod-eq_of_lt, div-add-mod'}
use Rattle.std.specs.Prelude.{bit_and, bit_or, ◌==◌}
use Rattle.std.specs.Int.{bit_at}
use Rattle.std.proofs.lemmas.Bool.{cases_lt}
use Rattle.std.proofs.lemmas.Bool.Decides.{eqb_tells, nat_tests}
use Rattle.std.proofs.lemmas.Nat.{mod-mul-add}
use Rattle.std.proofs.lemmas.Nat.Bits.{bit_at_and, bit_at_or, bit_at-lt}
use Rattle.cmb_wave.specs.declared.level.Level.{Level}
use Rattle.cmb_words.specs.Bits.{is_set_at, level_in}
use Rattle.cmb_words.proofs.BitFacts.{shl_high, shl_low}
use Rattle.cmb_words.proofs.LevelFacts.{level_by_bits}

-- Each bit that is seen at an arrival, the first one and those after whole periods, stands there and at the places after it, `span` in all; the others are 0.
pub record AreCarried (seen bits arrival period span : ℕ) : Type 0 where
  pub least : 1 ≤ span
  pub below : (i : ℕ) → i < arrival → bit_at bits i ≡ 0
  pub within : (k r i : ℕ) → i ≡ arrival + k * period + r → r < span → r < period → i < 64 → bit_at bits i ≡ bit_at seen (arrival + k * period)
  pub beyond : (k r i : ℕ) → i ≡ arrival + k * period + r → span ≤ r → r < period → i < 64 → bit_at bits i ≡ 0

-- ---- at first only the arrivals themselves

bit_of_set : (mask i : ℕ) → is_set_at mask i ≡ true → bit_at mask i ≡ 1
unfolding is_set_at
bit_of_set mask i h = ⊎_elim (λ yes. yes.1) (λ other. cc) (eqb_tells (bit_at mask i) 1)

bit_of_unset : (mask i : ℕ) → is_set_at mask i ≡ false → bit_at mask i ≡ 0
unfolding is_set_at
bit_of_unset mask i h =
    ⊎_elim (λ yes. cc) (λ other. omega (arith, bit_at-lt mask i, other.1)) (eqb_tells (bit_at mask i) 1)

module _ (seen arrivals arrival period : ℕ)
    (each : (i : ℕ) → i < 64 → is_set_at arrivals i ≡ (nat_le arrival i && ((i - arrival) % period == 0))) where
  masked : (i b : ℕ) → bit_at arrivals i ≡ b → bit_at (bit_and seen arrivals) i ≡ min (bit_at seen i) b
  masked i b h = bit_at_and seen arrivals i ∙ ap (min (bit_at seen i)) h

  rest_of : (k r i : ℕ) → i ≡ arrival + k * period + r → r < period → (i - arrival) % period ≡ r
  rest_of k r i e small = ap (λ n. n % period) (let h : i - arrival ≡ k * period + r = omega (arith, e) in h) ∙ mod-mul-add k period r small

  at_rest : (k r i : ℕ) → i ≡ arrival + k * period + r → r < period → i < 64 → is_set_at arrivals i ≡ (r == 0)
  at_rest k r i e small fits =
      let from : arrival ≤ i = omega (arith, e) in
      let yes : nat_le arrival i ≡ true = grind (arith, nat_tests) in
      each i fits ∙ ap₂ (λ b n. b && (n == 0)) yes (rest_of k r i e small)

  pub carried-init : arrival < 64 → 1 ≤ period → AreCarried seen (bit_and seen arrivals) arrival period 1
  carried-init inside some = record {
    least = omega arith;
    below = λ i below.
        let no : nat_le arrival i ≡ false = grind (arith, nat_tests) in
        let none : bit_at arrivals i ≡ 0 = bit_of_unset arrivals i (each i (omega arith) ∙ ap (λ b. b && ((i - arrival) % period == 0)) no) in
        omega (arith, masked i 0 none);
    within = λ k r i e first small fits.
        let none : r ≡ 0 = omega arith in
        let one : bit_at arrivals i ≡ 1 = bit_of_set arrivals i (at_rest k r i e small fits ∙ ap (λ n. n == 0) none) in
        let same : bit_at (bit_and seen arrivals) i ≡ bit_at seen i = omega (arith, masked i 1 one, bit_at-lt seen i) in
        same ∙ ap (bit_at seen) (let h : i ≡ arrival + k * period = omega (arith, e, none) in h);
    beyond = λ k r i e above small fits.
        let other : (r == 0) ≡ false = grind (arith, nat_tests) in
        let none : bit_at arrivals i ≡ 0 = bit_of_unset arrivals i (at_rest k r i e small fits ∙ other) in
        omega (arith, masked i 0 none);
  }

-- ---- then also the places up to a step further on

module _ (seen bits arrival period span step : ℕ) (held : AreCarried seen bits arrival period span)
    (some : 1 ≤ step) (short : step ≤ span) (room : span + step ≤ period) where
  abbrev moved : ℕ
  moved = bits * 2 ^ step % 2 ^ 64

  joined : (i b c : ℕ) → bit_at bits i ≡ b → bit_at moved i ≡ c → bit_at (bit_or bits moved) i ≡ max b c
  joined i b c h k = bit_at_or bits moved i ∙ ap₂ max h k

  -- nothing moves up to a place that isn't reached
  moved_below : (i : ℕ) → i < arrival + step → i < 64 → bit_at moved i ≡ 0
  moved_below i below fits =
      ⊎_elim
      (λ low. shl_low bits step i low fits)
      (λ high. shl_high bits step i high fits ∙ held.below (i - step) (omega arith))
      (cases_lt i step)

  -- nor to the places so near behind an arrival
  moved_near : (k r i : ℕ) → i ≡ arrival + k * period + r → r < step → i < 64 → bit_at moved i ≡ 0
  moved_near zero r i e near fits = moved_below i (let h : i < arrival + step = omega (arith, e, (let z : 0 * period ≡ 0 = omega arith in z)) in h) fits
  moved_near (suc k) r i e near fits =
      let more : suc k * period ≡ k * period + period = omega arith in
      shl_high bits step i (omega (arith, e, more)) fits
      ∙ held.beyond k (r + period - step) (i - step) (omega (arith, e, more)) (omega arith) (omega arith) (omega arith)

  moved_far : (k r i : ℕ) → i ≡ arrival + k * period + r → step ≤ r → i < 64 → bit_at moved i ≡ bit_at bits (i - step)
  moved_far k r i e far fits = shl_high bits step i (omega (arith, e)) fits

  pub carried-more : arrival < 64 → AreCarried seen (bit_or bits moved) arrival period (span + step)
  carried-more inside = record {
    least = omega arith;
    below = λ i below. joined i 0 0 (held.below i below) (moved_below i (omega arith) (omega arith));
    within = λ k r i e reached small fits.
        ⊎_elim
        (λ near.
        let e' = joined i _ 0 (held.within k r i e (omega arith) small fits) (moved_near k r i e near fits) in
        omega (arith, e'))
        (λ far.
        let before : bit_at moved i ≡ bit_at seen (arrival + k * period) =
        moved_far k r i e far fits ∙ held.within k (r - step) (i - step) (omega (arith, e)) (omega arith) (omega arith) (omega arith) in
        ⊎_elim
        (λ had. omega (arith, joined i _ _ (held.within k r i e had small fits) before))
        (λ new. omega (arith, joined i _ _ (held.beyond k r i e new small fits) before))
        (cases_lt r span))
        (cases_lt r step);
    beyond = λ k r i e above small fits.
        joined i 0 0 (held.beyond k r i e (omega arith) small fits)
        (moved_far k r i e (omega arith) fits ∙ held.beyond k (r - step) (i - step) (omega (arith, e)) (omega arith) (omega arith) (omega arith));
  }

-- ---- at last all places from the first arrival on

module _ (seen bits arrival period span : ℕ) (held : AreCarried seen bits arrival period span)
    (some : 1 ≤ period) (full : min period (64 - arrival) ≤ span) where
  -- the last arrival
  last : ℕ → ℕ
  last i = arrival + (i - arrival) / period * period

  split : (i : ℕ) → arrival ≤ i → i ≡ arrival + (i - arrival) / period * period + (i - arrival) % period
  split i from = omega (arith, div-add-mod' (i - arrival) period)

  rest_small : (i : ℕ) → (i - arrival) % period < period
  rest_small i = mod-lt (i - arrival) (omega arith)

  pub carried_at : (i : ℕ) → arrival ≤ i → i < 64 → bit_at bits i ≡ bit_at seen (arrival + (i - arrival) / period * period)
  carried_at i from fits =
      held.within ((i - arrival) / period) ((i - arrival) % period) i (split i from) (omega (arith, split i from, rest_small i, full)) (rest_small i) fits

  pub carried_arrival : (i : ℕ) → arrival ≤ i → i < 64 → (i - arrival) % period ≡ 0 → bit_at bits i ≡ bit_at seen i
  carried_arrival i from fits none =
      carried_at i from fits ∙ ap (bit_at seen) (let h : arrival + (i - arrival) / period * period ≡ i = omega (arith, split i from, none) in h)

  pub carried_on : (i : ℕ) → arrival ≤ i → i < 64 → 1 ≤ (i - arrival) % period → bit_at bits i ≡ bit_at bits (i - 1)
  carried_on i from fits some_rest =
      carried_at i from fits
      ∙ sym
      (held.within ((i - arrival) / period) ((i - arrival) % period - 1) (i - 1) (omega (arith, split i from, some_rest)) (omega (arith, split i from, rest_small i, full, some_rest)) (omega (arith, rest_small i, some_rest)) (omega arith))

-- the levels of two planes
pub carried_level : (v x a b arrival period span : ℕ) → AreCarried v a arrival period span → AreCarried x b arrival period span
    → 1 ≤ period → min period (64 - arrival) ≤ span → (i : ℕ) → arrival ≤ i → i < 64
    → level_in a b i ≡ (if (i - arrival) % period == 0 then level_in v x i else level_in a b (i - 1))
carried_level v x a b arrival period span ones unknown some full i from fits =
    ⊎_elim
    (λ yes.
    rw yes.0
    (level_by_bits a b i v x i (carried_arrival v a arrival period span ones some full i from fits yes.1)
    (carried_arrival x b arrival period span unknown some full i from fits yes.1)))
    (λ other.
    let rest : 1 ≤ (i - arrival) % period = omega (arith, other.1) in
    rw other.0
    (level_by_bits a b i a b (i - 1) (carried_on v a arrival period span ones some full i from fits rest)
    (carried_on x b arrival period span unknown some full i from fits rest)))
    (eqb_tells ((i - arrival) % period) 0)

pub carried_apart : (v x a b arrival period span : ℕ) → AreCarried v a arrival period span → AreCarried x b arrival period span
    → 1 ≤ period → min period (64 - arrival) ≤ span → ((j : ℕ) → j < 64 → bit_at v j + bit_at x j < 2)
    → (i : ℕ) → i < 64 → bit_at a i + bit_at b i < 2
carried_apart v x a b arrival period span ones unknown some full apart i fits =
    ⊎_elim
    (λ below. rw (ones.below i below, unknown.below i below) (omega arith))
    (λ from.
    rw (carried_at v a arrival period span ones some full i from fits, carried_at x b arrival period span unknown some full i from fits)
    (apart (arrival + (i - arrival) / period * period) (omega (arith, div-add-mod' (i - arrival) period))))
    (cases_lt i arrival)

-- where one sample arrives, its level is that of all places from it on
pub carried-once : (seen word : ℕ → Level) (arrival period i : ℕ) → 64 - arrival ≤ period
    → ((j : ℕ) → j < 64 → word j ≡ seen arrival) → arrival ≤ i → i < 64
    → word i ≡ (if (i - arrival) % period == 0 then seen i else word (i - 1))
carried-once seen word arrival period i once all from fits =
    let whole : (i - arrival) % period ≡ i - arrival = mod-eq_of_lt (let h : i - arrival < period = omega (arith, once, from, fits) in h) in
    ⊎_elim
    (λ yes.
    rw yes.0 (all i fits ∙ ap seen (let e : arrival ≡ i = omega (arith, yes.1, whole, from) in e)))
    (λ other.
    rw other.0 (all i fits ∙ sym (all (i - 1) (omega (arith, fits)))))
    (eqb_tells ((i - arrival) % period) 0)

-- ---- a flip-flop's levels: own ones repeated, and from the first arrival on the carried ones

pub every-none : (own word input : ℕ → Level) (delay arrival period from i : ℕ) → 1 ≤ from
    → ((j : ℕ) → j < from → word j ≡ own j) → ((j : ℕ) → from ≤ j → j < arrival → j < 64 → word j ≡ own (from - 1))
    → from ≤ i → i < arrival → i < 64
    → word i ≡ (if nat_le arrival i && ((i - arrival) % period == 0) then input (i - delay) else word (i - 1))
every-none own word input delay arrival period from i least low high above below fits =
    let no : nat_le arrival i ≡ false = grind (arith, nat_tests) in
    let before : word (i - 1) ≡ own (from - 1) =
    ⊎_elim
    (λ under. low (i - 1) under ∙ ap own (let e : i - 1 ≡ from - 1 = omega arith in e))
    (λ later. high (i - 1) later (omega arith) (omega arith))
    (cases_lt (i - 1) from) in
    rw no (high i above below fits ∙ sym before)

same_but : (b : Bool) (x y u v : Level) → (b ≡ true → x ≡ u) → (b ≡ false → y ≡ v) → (if b then x else y) ≡ (if b then u else v)
same_but true x y u v h k = h refl
same_but false x y u v h k = k refl

pub every-some : (carried seen word input : ℕ → Level) (delay arrival period i : ℕ) → 1 ≤ period
    → ((j : ℕ) → arrival ≤ j → j < 64 → carried j ≡ (if (j - arrival) % period == 0 then seen j else carried (j - 1)))
    → ((j : ℕ) → arrival ≤ j → j < 64 → word j ≡ carried j)
    → seen i ≡ input (i - delay) → arrival ≤ i → i < 64
    → word i ≡ (if nat_le arrival i && ((i - arrival) % period == 0) then input (i - delay) else word (i - 1))
every-some carried seen word input delay arrival period i some each same sees from fits =
    let yes : nat_le arrival i ≡ true = grind (arith, nat_tests) in
    rw yes
    (same i from fits ∙ each i from fits
    ∙ same_but ((i - arrival) % period == 0) (seen i) (carried (i - 1)) (input (i - delay)) (word (i - 1)) (λ at. sees)
    (λ on. sym (same (i - 1) (after on) (omega arith))))
  where
    after : ((i - arrival) % period == 0) ≡ false → arrival ≤ i - 1
    after on =
        ⊎_elim
        (λ at.
        let none : i - arrival ≡ 0 = omega arith in
        let rest : (i - arrival) % period ≡ 0 = ap (λ n. n % period) none ∙ mod-eq_of_lt (let h : 0 < period = omega arith in h) in
        absurd (true≢false (sym (ap (λ n. n == 0) rest) ∙ on)))
        (λ later. omega arith)
        (cases_lt i (arrival + 1))
