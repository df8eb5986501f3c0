-- The set bits of a word from a place on, counted.
use Rattle.std.proofs.Common.{◌≡◌, ℕ, zero, suc, ◌+◌, ◌-◌, ◌*◌, ◌/◌, ◌%◌, ◌^◌, ◌<◌, ◌≤◌, false, refl, sym, ap, ap₂, subst, ◌∙◌, arith}
use Rattle.std.proofs.Math.Nat.{div-eq_of_lt, div-one}
use Rattle.std.proofs.Common.{shr-shr}
use Rattle.std.specs.Int.{bit_at}
use Rattle.std.specs.Int.Count.{ones, ones_step}
use Rattle.cmb_activity.specs.Inner.SetBits.{set_bits}
use Rattle.std.proofs.lemmas.Nat.Bits.{bit_at-lt, bit_at-zero}
use Rattle.std.specs.Int.Bits.{bit_and}
use Rattle.std.specs.Prelude.{if◌then◌else◌}
use Rattle.cmb_words.specs.Bits.{is_set_at}
use Rattle.cmb_words.proofs.BitFacts.{masked_below, masked_from}

none_left : (n k : ℕ) → n < 2 ^ k → ones (n / 2 ^ k) ≡ 0
unfolding ones
none_left n k fits = ap ones (div-eq_of_lt fits)

one_more : (n place : ℕ) → ones (n / 2 ^ place) ≡ bit_at n place + ones (n / 2 ^ suc place)
one_more n place =
    ones_step (n / 2 ^ place) ∙ ap (λ (rest : ℕ). bit_at n place + ones rest) (shr-shr n place 1)
    ∙ ap (λ (k : ℕ). bit_at n place + ones (n / 2 ^ k)) (let e : place + 1 ≡ suc place = omega arith in e)

longer : (n : ℕ) {k m : ℕ} → n < 2 ^ k → k ≡ m → n < 2 ^ m
longer n fits e = subst (λ (k : ℕ). n < 2 ^ k) e fits

-- what grows by one just where a bit is set grows by the ones
counted : (f : ℕ → ℕ) (n count place tick : ℕ) → n < 2 ^ (place + count)
    → ((i : ℕ) → i < count → f (suc (tick + i)) ≡ f (tick + i) + bit_at n (place + i))
    → f (tick + count) ≡ f tick + ones (n / 2 ^ place)
counted f n zero place tick fits each =
    let none : ones (n / 2 ^ place) ≡ 0 = none_left n place (longer n fits (omega arith)) in
    ap f (let e : tick + 0 ≡ tick = omega arith in e) ∙ (let e : f tick ≡ f tick + ones (n / 2 ^ place) = omega (arith, none) in e)
counted f n (suc count) place tick fits each =
    let rest : f (suc tick + count) ≡ f (suc tick) + ones (n / 2 ^ suc place) =
    counted f n count (suc place) (suc tick) (longer n fits (omega arith)) later in
    let first : f (suc tick) ≡ f tick + bit_at n place = now in
    ap f (let e : tick + suc count ≡ suc tick + count = omega arith in e)
    ∙ (let e : f (suc tick + count) ≡ f tick + ones (n / 2 ^ place) = omega (arith, rest, first, one_more n place) in e)
  where
    now : f (suc tick) ≡ f tick + bit_at n place
    now =
        let t : tick + 0 ≡ tick = omega arith in
        let p : place + 0 ≡ place = omega arith in
        ap (λ (k : ℕ). f (suc k)) (sym t) ∙ each 0 (omega arith) ∙ ap₂ (λ (j k : ℕ). f j + bit_at n k) t p

    later : (i : ℕ) → i < count → f (suc (suc tick + i)) ≡ f (suc tick + i) + bit_at n (suc place + i)
    later i within =
        let t : tick + suc i ≡ suc tick + i = omega arith in
        let p : place + suc i ≡ suc place + i = omega arith in
        ap (λ (k : ℕ). f (suc k)) (sym t) ∙ each (suc i) (omega arith) ∙ ap₂ (λ (j k : ℕ). f j + bit_at n k) t p

-- ---- the bits that are set, of so many from one on

none_set : (bits first : ℕ) → set_bits bits first 0 ≡ 0
unfolding set_bits
none_set bits first = refl

next_set : (bits first places : ℕ) → set_bits bits first (suc places) ≡ set_bits bits first places + bit_at bits (first + places)
unfolding set_bits
next_set bits first places = refl

pub all_set : (bits first places : ℕ) → bits < 2 ^ (first + places) → set_bits bits first places ≡ ones (bits / 2 ^ first)
all_set bits first places fits =
    let all : set_bits bits first (0 + places) ≡ set_bits bits first 0 + ones (bits / 2 ^ first) = counted (set_bits bits first) bits places first 0 fits each in
    ap (set_bits bits first) (let e : places ≡ 0 + places = omega arith in e) ∙ omega (arith, all, none_set bits first)
  where
    each : (i : ℕ) → i < places → set_bits bits first (suc (0 + i)) ≡ set_bits bits first (0 + i) + bit_at bits (first + i)
    each i within =
        next_set bits first (0 + i) ∙ ap (λ (k : ℕ). set_bits bits first (0 + i) + bit_at bits (first + k)) (let e : 0 + i ≡ i = omega arith in e)

pub few : (bits first places : ℕ) → set_bits bits first places ≤ places
few bits first zero = omega (arith, none_set bits first)
few bits first (suc places) = omega (arith, next_set bits first places, few bits first places, bit_at-lt bits (first + places))

-- what grows by one just where a bit is set grows by as many as are set
pub grows : (f : ℕ → ℕ) (bits first places tick : ℕ)
    → ((i : ℕ) → i < places → f (suc (tick + i)) ≡ f (tick + i) + bit_at bits (first + i))
    → f (tick + places) ≡ f tick + set_bits bits first places
grows f bits first zero tick each =
    ap f (let e : tick + 0 ≡ tick = omega arith in e) ∙ (let e : f tick ≡ f tick + set_bits bits first 0 = omega (arith, none_set bits first) in e)
grows f bits first (suc places) tick each =
    ap f (let e : tick + suc places ≡ suc (tick + places) = omega arith in e)
    ∙ omega (arith, each places (omega arith), next_set bits first places, grows f bits first places tick (λ i within. each i (omega arith)))

-- no bit is set of those that are all 0
pub none_of : (bits first places : ℕ) → ((i : ℕ) → first ≤ i → i < first + places → bit_at bits i ≡ 0) → set_bits bits first places ≡ 0
none_of bits first zero none = none_set bits first
none_of bits first (suc places) none =
    omega (arith, next_set bits first places, none_of bits first places (λ i from below. none i from (omega (arith, below))), none (first + places) (omega arith) (omega arith))

-- as many as in bits that are the same
same_set : (bits others first places : ℕ) → ((i : ℕ) → first ≤ i → i < first + places → bit_at bits i ≡ bit_at others i)
    → set_bits bits first places ≡ set_bits others first places
same_set bits others first zero same = none_set bits first ∙ sym (none_set others first)
same_set bits others first (suc places) same =
    omega (
      arith,
      next_set bits first places,
      next_set others first places,
      same_set bits others first places (λ i from below. same i from (omega (arith, below))),
      same (first + places) (omega arith) (omega arith),
    )

-- those of places one after another
in_two : (bits places : ℕ) (more : ℕ) → set_bits bits 0 (places + more) ≡ set_bits bits 0 places + set_bits bits places more
in_two bits places zero = ap (set_bits bits 0) (let e : places + 0 ≡ places = omega arith in e) ∙ omega (arith, none_set bits places)
in_two bits places (suc more) =
    ap (set_bits bits 0) (let e : places + suc more ≡ suc (places + more) = omega arith in e)
    ∙ omega (arith, next_set bits 0 (places + more), next_set bits places more, in_two bits places more, ap (bit_at bits) (let e : 0 + (places + more) ≡ places + more = omega arith in e))

-- the ones of a word that is masked below a place
pub masked_ones : (bits place : ℕ) → place < 64 → bit_and bits ((2 ^ 64 - 1) * 2 ^ place % 2 ^ 64) < 2 ^ 64
    → ones (bit_and bits ((2 ^ 64 - 1) * 2 ^ place % 2 ^ 64)) ≡ set_bits bits place (64 - place)
masked_ones bits place small fits =
    whole ∙ ap (set_bits masked 0) (let e : 64 ≡ place + (64 - place) = omega (arith, small) in e)
    ∙ omega (arith, in_two masked place (64 - place), below, above)
  where
    masked : ℕ
    masked = bit_and bits ((2 ^ 64 - 1) * 2 ^ place % 2 ^ 64)

    whole : ones masked ≡ set_bits masked 0 64
    whole = ap ones (let e : masked ≡ masked / 2 ^ 0 = sym (div-one masked) in e) ∙ sym (all_set masked 0 64 fits)

    below : set_bits masked 0 place ≡ 0
    below = none_of masked 0 place (λ i from low. masked_below bits place i small (omega (arith, low)))

    above : set_bits masked place (64 - place) ≡ set_bits bits place (64 - place)
    above = same_set masked bits place (64 - place) (λ i from high. masked_from bits place i from (omega (arith, high, small)))

-- ---- bits that are all 0

pub none_from : (bits place : ℕ) → bit_and bits ((2 ^ 64 - 1) * 2 ^ place % 2 ^ 64) ≡ 0 → (i : ℕ) → place ≤ i → i < 64 → bit_at bits i ≡ 0
none_from bits place none i from small = sym (masked_from bits place i from small) ∙ ap (λ (n : ℕ). bit_at n i) none ∙ bit_at-zero i

not_set : (bits i : ℕ) → bit_at bits i ≡ 0 → is_set_at bits i ≡ false
unfolding is_set_at
not_set bits i none = rw none refl

pub nothing_counts : (count bits ticks left : ℕ) → 1 ≤ ticks → ticks ≤ 63 → bit_and bits ((2 ^ 64 - 1) * 2 ^ (63 - ticks) % 2 ^ 64) ≡ 0
    → count + (if is_set_at bits (63 - ticks) then ticks + left else 0) ≡ count + set_bits bits (64 - ticks) ticks + (if is_set_at bits 63 then left else 0)
nothing_counts count bits ticks left some most none =
    let before : is_set_at bits (63 - ticks) ≡ false = not_set bits (63 - ticks) (none_from bits (63 - ticks) none (63 - ticks) (omega arith) (omega arith)) in
    let after : is_set_at bits 63 ≡ false = not_set bits 63 (none_from bits (63 - ticks) none 63 (omega arith) (omega arith)) in
    let here : set_bits bits (64 - ticks) ticks ≡ 0 =
    none_of bits (64 - ticks) ticks (λ i from below. none_from bits (63 - ticks) none i (omega (arith, from)) (omega (arith, below, some, most))) in
    rw (before, after) (omega (arith, here))

-- the bits from a place on are the last so many
pub of_last : (bits ticks n m : ℕ) → ticks ≤ 63 → n ≡ set_bits bits (64 - ticks) (64 - (64 - ticks)) → m + n ≡ m + set_bits bits (64 - ticks) ticks
of_last bits ticks n m most is =
    ap (λ (k : ℕ). m + k) (is ∙ ap (set_bits bits (64 - ticks)) (let e : 64 - (64 - ticks) ≡ ticks = omega (arith, most) in e))
