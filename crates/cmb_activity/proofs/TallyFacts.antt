-- Counting the ticks at which a waveform has a level, and its changes.
use Rattle.std.proofs.Common.{◌≡◌, ℕ, zero, suc, ◌+◌, ◌-◌, ◌*◌, ◌/◌, ◌%◌, ◌^◌, ◌<◌, ◌≤◌, Bool, true, false, not, length, refl, sym, ap, ◌∙◌, arith, true≢false, ◌==◌, if◌then◌else◌, length-append}
use Rattle.std.specs.Int.{bit_at}
use Rattle.std.specs.Int.Bits.{bit_and}
use Rattle.std.proofs.lemmas.Nat.Bits.{bit_at-lt, bit_at-zero}
use Rattle.cmb_wave.specs.declared.level.Level.{Level}
use Rattle.cmb_wave.specs.declared.level.Level.TheVariants.{Zero, One, X}
use Rattle.cmb_wave.specs.Waveform.{change_at, changes_between, count_below, level_before, same_level}
use Rattle.cmb_words.specs.Changes.{IsStill}
use Rattle.cmb_wave.proofs.Waveforms.{changes_between-suc, count_below-add}
use Rattle.cmb_words.specs.Bits.{is_set_at, level_in, level_of_bits}
use Rattle.cmb_words.proofs.StillFacts.{still-level}
use Rattle.cmb_activity.specs.Activities.{IsActivity, ticks_at}
use Rattle.cmb_activity.specs.declared.activity.Activity.{Activity}
use Rattle.cmb_activity.specs.Inner.SetBits.{set_bits}
use Rattle.cmb_activity.specs.Inner.Tallies.{CanGrow, IsTally, ticks_before, ticks_if_kept}
use Rattle.cmb_activity.specs.declared.tally.Tally.{Tally}
use Rattle.cmb_activity.proofs.OnesFacts.{grows, none_from}

-- ---- ticks

pub ticks_next : (level : ℕ → Level) (wanted : Level) (tick : ℕ)
    → ticks_at level wanted (suc tick) ≡ ticks_at level wanted tick + (if same_level (level tick) wanted then 1 else 0)
unfolding ticks_at
ticks_next level wanted tick = refl

pub ticks_none : (level : ℕ → Level) (wanted : Level) → ticks_at level wanted 0 ≡ 0
unfolding ticks_at
ticks_none level wanted = refl

one_of : (l : Level)
    → (if same_level l Zero then 1 else 0) + (if same_level l One then 1 else 0) + (if same_level l X then 1 else 0) ≡ 1
one_of Zero = refl
one_of One = refl
one_of X = refl

-- each tick has one of the three levels
pub each_tick : (level : ℕ → Level) (upto : ℕ) → ticks_at level Zero upto + ticks_at level One upto + ticks_at level X upto ≡ upto
each_tick level zero = omega (arith, ticks_none level Zero, ticks_none level One, ticks_none level X)
each_tick level (suc upto) =
    omega (arith, each_tick level upto, one_of (level upto), ticks_next level Zero upto, ticks_next level One upto, ticks_next level X upto)

-- ---- changes

change_length : (level : ℕ → Level) (tick : ℕ) → length (change_at level tick) ≡ (if same_level (level_before level tick) (level tick) then 0 else 1)
unfolding change_at
change_length level tick = go (same_level (level_before level tick) (level tick)) refl
  where
    go : (b : Bool) → same_level (level_before level tick) (level tick) ≡ b
        → length (change_at level tick) ≡ (if same_level (level_before level tick) (level tick) then 0 else 1)
    go true e = rw e refl
    go false e = rw e refl

pub count_next : (level : ℕ → Level) (tick : ℕ)
    → count_below level (suc tick) ≡ count_below level tick + (if same_level (level_before level tick) (level tick) then 0 else 1)
unfolding count_below
count_next level tick =
    ap length (changes_between-suc level 0 tick (omega arith)) ∙ length-append (changes_between level 0 tick) (change_at level tick)
    ∙ ap (λ (n : ℕ). length (changes_between level 0 tick) + n) (change_length level tick)

-- ---- bits of words

one_bit' : (p q : ℕ) → p + q < 2 → (if same_level (level_of_bits p q) One then 1 else 0) ≡ p
one_bit' zero zero h = refl
one_bit' (suc p) zero h = omega arith
one_bit' zero (suc q) h = refl
one_bit' (suc p) (suc q) h = absurd (omega arith)

x_bit' : (p q : ℕ) → p + q < 2 → (if same_level (level_of_bits p q) X then 1 else 0) ≡ q
x_bit' zero zero h = refl
x_bit' (suc p) zero h = refl
x_bit' zero (suc q) h = omega arith
x_bit' (suc p) (suc q) h = absurd (omega arith)

pub one_bit : (v x i : ℕ) → bit_at v i + bit_at x i < 2 → (if same_level (level_in v x i) One then 1 else 0) ≡ bit_at v i
unfolding level_in
one_bit v x i = one_bit' (bit_at v i) (bit_at x i)

pub x_bit : (v x i : ℕ) → bit_at v i + bit_at x i < 2 → (if same_level (level_in v x i) X then 1 else 0) ≡ bit_at x i
unfolding level_in
x_bit v x i = x_bit' (bit_at v i) (bit_at x i)

-- ---- a waveform that is still

pub still_at : (level : ℕ → Level) (from upto k : ℕ) → 1 ≤ from → IsStill level from upto → from + k ≤ upto → level (from - 1 + k) ≡ level (from - 1)
still_at level from upto k some still within = still-level level from upto (from - 1 + k) some still (omega (arith, some)) (omega (arith, some, within))

pub still_ticks : (level : ℕ → Level) (wanted : Level) (from upto k : ℕ) → 1 ≤ from → IsStill level from upto → from + k ≤ upto
    → ticks_at level wanted (from + k) ≡ ticks_at level wanted from + (if same_level (level (from - 1)) wanted then k else 0)
still_ticks level wanted from upto zero some still within = go (same_level (level (from - 1)) wanted) refl
  where
    go : (b : Bool) → same_level (level (from - 1)) wanted ≡ b
        → ticks_at level wanted (from + 0) ≡ ticks_at level wanted from + (if same_level (level (from - 1)) wanted then 0 else 0)
    go true e = rw e (ap (ticks_at level wanted) (let e : from + 0 ≡ from = omega arith in e) ∙ omega arith)
    go false e = rw e (ap (ticks_at level wanted) (let e : from + 0 ≡ from = omega arith in e) ∙ omega arith)
still_ticks level wanted from upto (suc k) some still within =
    go (same_level (level (from - 1)) wanted) refl (still_ticks level wanted from upto k some still (omega arith)) (ticks_next level wanted (from + k)) same
  where
    same : level (from + k) ≡ level (from - 1)
    same = ap level (let e : from + k ≡ from - 1 + suc k = omega arith in e) ∙ still_at level from upto (suc k) some still within

    go : (b : Bool) → same_level (level (from - 1)) wanted ≡ b
        → ticks_at level wanted (from + k) ≡ ticks_at level wanted from + (if same_level (level (from - 1)) wanted then k else 0)
        → ticks_at level wanted (suc (from + k)) ≡ ticks_at level wanted (from + k) + (if same_level (level (from + k)) wanted then 1 else 0)
        → level (from + k) ≡ level (from - 1)
        → ticks_at level wanted (from + suc k) ≡ ticks_at level wanted from + (if same_level (level (from - 1)) wanted then suc k else 0)
    go true e before next same =
        let before' : ticks_at level wanted (from + k) ≡ ticks_at level wanted from + k = rw e at before in
        let next' : ticks_at level wanted (suc (from + k)) ≡ ticks_at level wanted (from + k) + 1 = rw (same, e) at next in
        rw e (ap (ticks_at level wanted) (let e : from + suc k ≡ suc (from + k) = omega arith in e) ∙ omega (arith, before', next'))
    go false e before next same =
        let before' : ticks_at level wanted (from + k) ≡ ticks_at level wanted from + 0 = rw e at before in
        let next' : ticks_at level wanted (suc (from + k)) ≡ ticks_at level wanted (from + k) + 0 = rw (same, e) at next in
        rw e (ap (ticks_at level wanted) (let e : from + suc k ≡ suc (from + k) = omega arith in e) ∙ omega (arith, before', next'))

before_of : (level : ℕ → Level) (tick : ℕ) → 1 ≤ tick → level_before level tick ≡ level (tick - 1)
before_of level zero some = absurd (omega arith)
before_of level (suc tick) some = ap level (let e : tick ≡ suc tick - 1 = omega arith in e)

pub still_count : (level : ℕ → Level) (from upto : ℕ) → from ≤ upto → IsStill level from upto → count_below level upto ≡ count_below level from
still_count level from upto order still = count_below-add level from upto order ∙ omega (arith, ap length still)

pub still_last : (level : ℕ → Level) (from upto : ℕ) → 1 ≤ from → from ≤ upto → IsStill level from upto → level (upto - 1) ≡ level (from - 1)
still_last level from upto some order still =
    ap level (let e : upto - 1 ≡ from - 1 + (upto - from) = omega arith in e) ∙ still_at level from upto (upto - from) some still (omega arith)

-- ---- what a word tells

-- the ticks at 1 and at x, and the changes, in the ticks that a word of a net tells, which ends before a tick
pub word_ones : (level : ℕ → Level) (ones unknown from upto : ℕ) → ((place : ℕ) → place < 64 → bit_at ones place + bit_at unknown place < 2)
    → from < upto → upto ≤ from + 63 → ((tick : ℕ) → from ≤ tick + 1 → tick < upto → level_in ones unknown (tick + 64 - upto) ≡ level tick)
    → ticks_at level One upto ≡ ticks_at level One from + set_bits ones (64 - (upto - from)) (upto - from)
word_ones level ones unknown from upto apart order short tells =
    ap (ticks_at level One) (let e : upto ≡ from + (upto - from) = omega arith in e)
    ∙ grows (ticks_at level One) ones (64 - (upto - from)) (upto - from) from each
  where
    each : (i : ℕ) → i < upto - from → ticks_at level One (suc (from + i)) ≡ ticks_at level One (from + i) + bit_at ones (64 - (upto - from) + i)
    each i within =
        let place : from + i + 64 - upto ≡ 64 - (upto - from) + i = omega arith in
        let told : level_in ones unknown (64 - (upto - from) + i) ≡ level (from + i) = rw place at (tells (from + i) (omega arith) (omega arith)) in
        ticks_next level One (from + i)
        ∙ ap (λ (l : Level). ticks_at level One (from + i) + (if same_level l One then 1 else 0)) (sym told)
        ∙ ap (λ (n : ℕ). ticks_at level One (from + i) + n) (one_bit ones unknown _ (apart _ (omega arith)))

pub word_unknown : (level : ℕ → Level) (ones unknown from upto : ℕ) → ((place : ℕ) → place < 64 → bit_at ones place + bit_at unknown place < 2)
    → from < upto → upto ≤ from + 63 → ((tick : ℕ) → from ≤ tick + 1 → tick < upto → level_in ones unknown (tick + 64 - upto) ≡ level tick)
    → ticks_at level X upto ≡ ticks_at level X from + set_bits unknown (64 - (upto - from)) (upto - from)
word_unknown level ones unknown from upto apart order short tells =
    ap (ticks_at level X) (let e : upto ≡ from + (upto - from) = omega arith in e)
    ∙ grows (ticks_at level X) unknown (64 - (upto - from)) (upto - from) from each
  where
    each : (i : ℕ) → i < upto - from → ticks_at level X (suc (from + i)) ≡ ticks_at level X (from + i) + bit_at unknown (64 - (upto - from) + i)
    each i within =
        let place : from + i + 64 - upto ≡ 64 - (upto - from) + i = omega arith in
        let told : level_in ones unknown (64 - (upto - from) + i) ≡ level (from + i) = rw place at (tells (from + i) (omega arith) (omega arith)) in
        ticks_next level X (from + i)
        ∙ ap (λ (l : Level). ticks_at level X (from + i) + (if same_level l X then 1 else 0)) (sym told)
        ∙ ap (λ (n : ℕ). ticks_at level X (from + i) + n) (x_bit ones unknown _ (apart _ (omega arith)))

one_or_none : (m : ℕ) (b : Bool) → m < 2 → (m == 1) ≡ not b → (if b then 0 else 1) ≡ m
one_or_none zero true small h = refl
one_or_none zero false small h = absurd (true≢false (sym h))
one_or_none (suc zero) true small h = absurd (true≢false h)
one_or_none (suc zero) false small h = refl
one_or_none (suc (suc m)) b small h = absurd (omega arith)

is_bit : (mask place : ℕ) (b : Bool) → is_set_at mask place ≡ not b → (if b then 0 else 1) ≡ bit_at mask place
unfolding is_set_at
is_bit mask place b h = one_or_none (bit_at mask place) b (bit_at-lt mask place) h

pub word_changes : (level : ℕ → Level) (ones unknown mask from upto : ℕ) → 1 ≤ from → from < upto → upto ≤ from + 63
    → ((place : ℕ) → 64 - (upto - from) ≤ place → place < 64 → is_set_at mask place ≡ not (same_level (level_in ones unknown (place - 1)) (level_in ones unknown place)))
    → ((tick : ℕ) → from ≤ tick + 1 → tick < upto → level_in ones unknown (tick + 64 - upto) ≡ level tick)
    → count_below level upto ≡ count_below level from + set_bits mask (64 - (upto - from)) (upto - from)
word_changes level ones unknown mask from upto some order short set tells =
    ap (count_below level) (let e : upto ≡ from + (upto - from) = omega arith in e)
    ∙ grows (count_below level) mask (64 - (upto - from)) (upto - from) from each
  where
    each : (i : ℕ) → i < upto - from → count_below level (suc (from + i)) ≡ count_below level (from + i) + bit_at mask (64 - (upto - from) + i)
    each i within =
        let place : from + i + 64 - upto ≡ 64 - (upto - from) + i = omega arith in
        let place' : from + i - 1 + 64 - upto ≡ 64 - (upto - from) + i - 1 = omega arith in
        let told : level_in ones unknown (64 - (upto - from) + i) ≡ level (from + i) = rw place at (tells (from + i) (omega arith) (omega arith)) in
        let told' : level_in ones unknown (64 - (upto - from) + i - 1) ≡ level (from + i - 1) = rw place' at (tells (from + i - 1) (omega arith) (omega arith)) in
        let past : level_before level (from + i) ≡ level (from + i - 1) = before_of level (from + i) (omega arith) in
        let is : is_set_at mask (64 - (upto - from) + i) ≡ not (same_level (level_before level (from + i)) (level (from + i))) =
        rw (past, sym told, sym told') (set (64 - (upto - from) + i) (omega arith) (omega arith)) in
        count_next level (from + i) ∙ ap (λ (n : ℕ). count_below level (from + i) + n) (is_bit mask (64 - (upto - from) + i) _ is)

same_one' : (p q : ℕ) → p + q < 2 → same_level (level_of_bits p q) One ≡ (p == 1)
same_one' zero zero h = refl
same_one' (suc zero) zero h = refl
same_one' (suc (suc p)) zero h = absurd (omega arith)
same_one' zero (suc q) h = refl
same_one' (suc p) (suc q) h = absurd (omega arith)

pub same_one : (v x i : ℕ) → bit_at v i + bit_at x i < 2 → same_level (level_in v x i) One ≡ is_set_at v i
unfolding level_in is_set_at
same_one v x i = same_one' (bit_at v i) (bit_at x i)

same_x' : (p q : ℕ) → p + q < 2 → same_level (level_of_bits p q) X ≡ (q == 1)
same_x' zero zero h = refl
same_x' (suc p) zero h = refl
same_x' zero (suc zero) h = refl
same_x' p (suc (suc q)) h = absurd (omega arith)
same_x' (suc p) (suc q) h = absurd (omega arith)

pub same_x : (v x i : ℕ) → bit_at v i + bit_at x i < 2 → same_level (level_in v x i) X ≡ is_set_at x i
unfolding level_in is_set_at
same_x v x i = same_x' (bit_at v i) (bit_at x i)

no_x : (ones unknown place : ℕ) → bit_at unknown place ≡ 0 → level_in ones unknown place ≡ level_in ones 0 place
unfolding level_in
no_x ones unknown place none = ap (level_of_bits (bit_at ones place)) (none ∙ sym (bit_at-zero place))

-- where no place is x from the one before a window on, the changes are those of the word without it
pub known_changes : (ones unknown mask ticks : ℕ) → 1 ≤ ticks → ticks ≤ 63 → bit_and unknown ((2 ^ 64 - 1) * 2 ^ (63 - ticks) % 2 ^ 64) ≡ 0
    → ((place : ℕ) → 64 - ticks ≤ place → place < 64 → is_set_at mask place ≡ not (same_level (level_in ones 0 (place - 1)) (level_in ones 0 place)))
    → (place : ℕ) → 64 - ticks ≤ place → place < 64 → is_set_at mask place ≡ not (same_level (level_in ones unknown (place - 1)) (level_in ones unknown place))
known_changes ones unknown mask ticks some most none set place late small =
    let past : level_in ones unknown (place - 1) ≡ level_in ones 0 (place - 1) =
    no_x ones unknown (place - 1) (none_from unknown (63 - ticks) none (place - 1) (omega (arith, late, most)) (omega (arith, small))) in
    let here : level_in ones unknown place ≡ level_in ones 0 place =
    no_x ones unknown place (none_from unknown (63 - ticks) none place (omega (arith, late)) small) in
    rw (past, here) (set place late small)

-- ---- a tally

-- a waveform that is still has as many ticks at a level as if it kept the one that it has
kept_ticks : (level : ℕ → Level) (wanted : Level) (from upto horizon : ℕ) → 1 ≤ from → from ≤ upto → upto ≤ horizon → IsStill level from upto
    → ticks_if_kept level wanted from horizon ≡ ticks_if_kept level wanted upto horizon
kept_ticks level wanted from upto horizon some order within still =
    go (same_level (level (from - 1)) wanted) refl ticks last
  where
    ticks : ticks_at level wanted upto ≡ ticks_at level wanted from + (if same_level (level (from - 1)) wanted then upto - from else 0)
    ticks =
        ap (ticks_at level wanted) (let e : upto ≡ from + (upto - from) = omega arith in e)
        ∙ still_ticks level wanted from upto (upto - from) some still (omega arith)

    last : same_level (level (upto - 1)) wanted ≡ same_level (level (from - 1)) wanted
    last = ap (λ (l : Level). same_level l wanted) (still_last level from upto some order still)

    go : (b : Bool) → same_level (level (from - 1)) wanted ≡ b
        → ticks_at level wanted upto ≡ ticks_at level wanted from + (if same_level (level (from - 1)) wanted then upto - from else 0)
        → same_level (level (upto - 1)) wanted ≡ same_level (level (from - 1)) wanted
        → ticks_if_kept level wanted from horizon ≡ ticks_if_kept level wanted upto horizon
    go true e ticks last =
        let ticks' : ticks_at level wanted upto ≡ ticks_at level wanted from + (upto - from) = rw e at ticks in
        rw (last, e) (omega (arith, ticks', order, within))
    go false e ticks last =
        let ticks' : ticks_at level wanted upto ≡ ticks_at level wanted from + 0 = rw e at ticks in
        rw (last, e) (omega (arith, ticks'))

pub kept : (level : ℕ → Level) (from upto horizon : ℕ) (tally : Tally) → from ≤ upto → upto ≤ horizon → IsStill level from upto
    → IsTally level from horizon tally → IsTally level upto horizon tally
kept level from upto horizon tally order within still is = record {
  begun = omega (arith, is.begun, order);
  within = within;
  counts =
      omega (
        arith,
        is.counts,
        still_count level from upto order still,
        kept_ticks level One from upto horizon is.begun order within still,
        kept_ticks level X from upto horizon is.begun order within still,
      );
}

-- the ticks after a window, where a word's bits say which of its ticks count
moved : (level : ℕ → Level) (wanted : Level) (bits from upto horizon : ℕ) → from < upto → upto ≤ horizon
    → same_level (level (from - 1)) wanted ≡ is_set_at bits (63 - (upto - from)) → same_level (level (upto - 1)) wanted ≡ is_set_at bits 63
    → ticks_at level wanted upto ≡ ticks_at level wanted from + set_bits bits (64 - (upto - from)) (upto - from)
    → ticks_if_kept level wanted upto horizon + ticks_before bits (upto - from) (horizon - upto)
    ≡ ticks_if_kept level wanted from horizon + (set_bits bits (64 - (upto - from)) (upto - from) + (if is_set_at bits 63 then horizon - upto else 0))
moved level wanted bits from upto horizon order within first last ticks = rw (first, last) (go (is_set_at bits (63 - (upto - from))))
  where
    go : (b : Bool)
        → ticks_at level wanted upto + (if is_set_at bits 63 then horizon - upto else 0) + (if b then upto - from + (horizon - upto) else 0)
        ≡ ticks_at level wanted from + (if b then horizon - from else 0) + (set_bits bits (64 - (upto - from)) (upto - from) + (if is_set_at bits 63 then horizon - upto else 0))
    go true = omega (arith, ticks, order, within)
    go false = omega (arith, ticks)

-- what a word tells of the ticks before a window and at its end, and of those between
pub record Moves (level : ℕ → Level) (ones unknown from upto horizon : ℕ) : Type 0 where
  pub high :
      ticks_if_kept level One upto horizon + ticks_before ones (upto - from) (horizon - upto)
      ≡ ticks_if_kept level One from horizon + (set_bits ones (64 - (upto - from)) (upto - from) + (if is_set_at ones 63 then horizon - upto else 0))
  pub low :
      ticks_if_kept level X upto horizon + ticks_before unknown (upto - from) (horizon - upto)
      ≡ ticks_if_kept level X from horizon + (set_bits unknown (64 - (upto - from)) (upto - from) + (if is_set_at unknown 63 then horizon - upto else 0))

before_of_word : (level : ℕ → Level) (ones unknown from upto : ℕ) → 1 ≤ from → from < upto → upto ≤ from + 63
    → ((tick : ℕ) → from ≤ tick + 1 → tick < upto → level_in ones unknown (tick + 64 - upto) ≡ level tick)
    → level_in ones unknown (63 - (upto - from)) ≡ level (from - 1)
before_of_word level ones unknown from upto some order short tells =
    let place : from - 1 + 64 - upto ≡ 63 - (upto - from) = omega (arith, some, order, short) in
    rw place at (tells (from - 1) (omega (arith, some)) (omega (arith, some, order)))

last_of_word : (level : ℕ → Level) (ones unknown from upto : ℕ) → from < upto
    → ((tick : ℕ) → from ≤ tick + 1 → tick < upto → level_in ones unknown (tick + 64 - upto) ≡ level tick)
    → level_in ones unknown 63 ≡ level (upto - 1)
last_of_word level ones unknown from upto order tells =
    let place : upto - 1 + 64 - upto ≡ 63 = omega (arith, order) in
    rw place at (tells (upto - 1) (omega (arith, order)) (omega (arith, order)))

at_level : (level : ℕ → Level) (ones unknown : ℕ) (wanted : Level) (bits tick place : ℕ) → same_level (level_in ones unknown place) wanted ≡ is_set_at bits place
    → level_in ones unknown place ≡ level tick → same_level (level tick) wanted ≡ is_set_at bits place
at_level level ones unknown wanted bits tick place same is = ap (λ (l : Level). same_level l wanted) (sym is) ∙ same

pub moves : (level : ℕ → Level) (ones unknown from upto horizon : ℕ)
    → ((place : ℕ) → place < 64 → bit_at ones place + bit_at unknown place < 2)
    → 1 ≤ from → from < upto → upto ≤ from + 63 → upto ≤ horizon
    → ((tick : ℕ) → from ≤ tick + 1 → tick < upto → level_in ones unknown (tick + 64 - upto) ≡ level tick)
    → Moves level ones unknown from upto horizon
moves level ones unknown from upto horizon apart some order short within tells = record {
  high =
      moved level One ones from upto horizon order within
      (at_level level ones unknown One ones (from - 1) (63 - (upto - from)) (same_one ones unknown (63 - (upto - from)) (apart (63 - (upto - from)) (omega arith))) before)
      (at_level level ones unknown One ones (upto - 1) 63 (same_one ones unknown 63 (apart 63 (omega arith))) last) (word_ones level ones unknown from upto apart order short tells);
  low =
      moved level X unknown from upto horizon order within
      (at_level level ones unknown X unknown (from - 1) (63 - (upto - from)) (same_x ones unknown (63 - (upto - from)) (apart (63 - (upto - from)) (omega arith))) before)
      (at_level level ones unknown X unknown (upto - 1) 63 (same_x ones unknown 63 (apart 63 (omega arith))) last) (word_unknown level ones unknown from upto apart order short tells);
}
  where
    before : level_in ones unknown (63 - (upto - from)) ≡ level (from - 1)
    before = before_of_word level ones unknown from upto some order short tells

    last : level_in ones unknown 63 ≡ level (upto - 1)
    last = last_of_word level ones unknown from upto order tells

-- what a tally must be after a window, by the bits of a word
abbrev pub IsRecounted : ℕ → ℕ → ℕ → ℕ → ℕ → ℕ → ℕ → Type 0
IsRecounted old new ones unknown mask ticks left =
    new + ticks_before ones ticks left * 1048576 + ticks_before unknown ticks left * 1099511627776
    ≡ old + set_bits mask (64 - ticks) ticks + (set_bits ones (64 - ticks) ticks + (if is_set_at ones 63 then left else 0)) * 1048576
    + (set_bits unknown (64 - ticks) ticks + (if is_set_at unknown 63 then left else 0)) * 1099511627776

pub grown : (level : ℕ → Level) (ones unknown mask from upto horizon : ℕ) (old new : Tally)
    → ((place : ℕ) → place < 64 → bit_at ones place + bit_at unknown place < 2)
    → from < upto → upto ≤ from + 63 → upto ≤ horizon
    → ((place : ℕ) → 64 - (upto - from) ≤ place → place < 64 → is_set_at mask place ≡ not (same_level (level_in ones unknown (place - 1)) (level_in ones unknown place)))
    → ((tick : ℕ) → from ≤ tick + 1 → tick < upto → level_in ones unknown (tick + 64 - upto) ≡ level tick)
    → IsRecounted old.counts new.counts ones unknown mask (upto - from) (horizon - upto)
    → IsTally level from horizon old → IsTally level upto horizon new
grown level ones unknown mask from upto horizon old new apart order short within set tells told is = record {
  begun = omega (arith, order);
  within = within;
  counts = omega (arith, told, is.counts, word_changes level ones unknown mask from upto is.begun order short set tells, moves'.high, moves'.low);
}
  where
    moves' : Moves level ones unknown from upto horizon
    moves' = moves level ones unknown from upto horizon apart is.begun order short within tells

-- ---- what a tally is at most and at least

count_few : (level : ℕ → Level) (k : ℕ) → count_below level (1 + k) ≤ count_below level 1 + k
count_few level zero = omega arith
count_few level (suc k) =
    omega (
      arith,
      count_few level k,
      step (same_level (level_before level (1 + k)) (level (1 + k))),
      count_next level (1 + k),
      ap (count_below level) (let e : 1 + suc k ≡ suc (1 + k) = omega arith in e),
    )
  where
    step : (b : Bool) → (if b then 0 else 1) ≤ 1
    step true = omega arith
    step false = omega arith

few_changes : (level : ℕ → Level) (from : ℕ) → 1 ≤ from → count_below level from ≤ count_below level 1 + (from - 1)
few_changes level from some =
    let all : 1 + (from - 1) ≡ from = omega (arith, some) in
    rw all at (count_few level (from - 1))

-- changes don't go away
some_changes : (level : ℕ → Level) (k : ℕ) → count_below level 1 ≤ count_below level (1 + k)
some_changes level zero = omega arith
some_changes level (suc k) =
    omega (arith, some_changes level k, count_next level (1 + k), ap (count_below level) (let e : 1 + suc k ≡ suc (1 + k) = omega arith in e))

least_changes : (level : ℕ → Level) (from : ℕ) → 1 ≤ from → count_below level 1 ≤ count_below level from
least_changes level from some =
    let all : 1 + (from - 1) ≡ from = omega (arith, some) in
    rw all at (some_changes level (from - 1))

if_most : (b : Bool) (n : ℕ) → (if b then n else 0) ≤ n
if_most true n = omega arith
if_most false n = omega arith

few_ticks : (level : ℕ → Level) (wanted : Level) (clock horizon : ℕ) → clock ≤ horizon → ticks_at level wanted clock ≤ clock → ticks_if_kept level wanted clock horizon ≤ horizon
few_ticks level wanted clock horizon within few = omega (arith, within, few, if_most (same_level (level (clock - 1)) wanted) (horizon - clock))

pub can_grow : (level : ℕ → Level) (ones unknown from upto horizon : ℕ) (tally : Tally)
    → ((place : ℕ) → place < 64 → bit_at ones place + bit_at unknown place < 2)
    → from < upto → upto ≤ from + 63 → upto ≤ horizon → horizon ≤ 1000000
    → ((tick : ℕ) → from ≤ tick + 1 → tick < upto → level_in ones unknown (tick + 64 - upto) ≡ level tick)
    → IsTally level from horizon tally → CanGrow from upto horizon ones unknown tally
can_grow level ones unknown from upto horizon tally apart order short within small tells is = record {
  most = omega (arith, is.counts, is.within, small, few_changes level from is.begun, high, other);
  least =
      omega (
        arith,
        is.counts,
        least_changes level from is.begun,
        least One ones (at_level level ones unknown One ones (from - 1) (63 - (upto - from)) (same_one ones unknown (63 - (upto - from)) (apart (63 - (upto - from)) (omega arith))) before),
        least X unknown (at_level level ones unknown X unknown (from - 1) (63 - (upto - from)) (same_x ones unknown (63 - (upto - from)) (apart (63 - (upto - from)) (omega arith))) before),
      );
}
  where
    high : ticks_if_kept level One from horizon ≤ horizon
    high = few_ticks level One from horizon is.within (omega (arith, each_tick level from))

    other : ticks_if_kept level X from horizon ≤ horizon
    other = few_ticks level X from horizon is.within (omega (arith, each_tick level from))

    before : level_in ones unknown (63 - (upto - from)) ≡ level (from - 1)
    before = before_of_word level ones unknown from upto is.begun order short tells

    least : (wanted : Level) (bits : ℕ) → same_level (level (from - 1)) wanted ≡ is_set_at bits (63 - (upto - from))
        → ticks_before bits (upto - from) (horizon - upto) ≤ ticks_if_kept level wanted from horizon
    least wanted bits e = rw e (go (is_set_at bits (63 - (upto - from))))
      where
        go : (b : Bool) → (if b then upto - from + (horizon - upto) else 0) ≤ ticks_at level wanted from + (if b then horizon - from else 0)
        go true = omega (arith, order, within)
        go false = omega arith

-- ---- the ends of a run

-- what is counted at tick 0
pub starts : (level : ℕ → Level) (first : Level) (horizon : ℕ) (new : Tally) → 1 ≤ horizon → level 0 ≡ first
    → new.counts ≡ (if same_level first One then horizon else 0) * 1048576 + (if same_level first X then horizon else 0) * 1099511627776 → IsTally level 1 horizon new
starts level first horizon new some at counts = record {
  begun = omega arith;
  within = some;
  counts = omega (arith, counts, each One, each X);
}
  where
    go : (b : Bool) → (if b then horizon else 0) ≡ 0 + (if b then 1 else 0) + (if b then horizon - 1 else 0)
    go true = omega (arith, some)
    go false = omega arith

    each : (wanted : Level) → (if same_level first wanted then horizon else 0) ≡ ticks_if_kept level wanted 1 horizon
    each wanted =
        let one : ticks_at level wanted 1 ≡ 0 + (if same_level (level 0) wanted then 1 else 0) =
        ticks_next level wanted 0 ∙ ap (λ (n : ℕ). n + (if same_level (level 0) wanted then 1 else 0)) (ticks_none level wanted) in
        ap (λ (l : Level). if same_level l wanted then horizon else 0) (sym at) ∙ go (same_level (level 0) wanted)
        ∙ ap (λ (n : ℕ). n + (if same_level (level 0) wanted then horizon - 1 else 0)) (sym one)

-- what is counted at the horizon
at_end : (level : ℕ → Level) (wanted : Level) (horizon : ℕ) → ticks_if_kept level wanted horizon horizon ≡ ticks_at level wanted horizon
at_end level wanted horizon = omega (arith, none (same_level (level (horizon - 1)) wanted))
  where
    none : (b : Bool) → (if b then horizon - horizon else 0) ≡ 0
    none true = omega arith
    none false = refl

-- the three counts of a tally
parts : (counts changes high unknown : ℕ) → changes < 1048576 → high < 1048576 → counts ≡ changes + high * 1048576 + unknown * 1099511627776
    → (counts % 1048576 ≡ changes) × (counts / 1048576 % 1048576 ≡ high) × (counts / 1099511627776 ≡ unknown)
parts counts changes high unknown few fewer is = (omega (arith, is, few, fewer), omega (arith, is, few, fewer), omega (arith, is, few, fewer))

parts_of : (level : ℕ → Level) (horizon : ℕ) (tally : Tally) → horizon ≤ 1000000 → IsTally level horizon horizon tally
    → (tally.counts % 1048576 ≡ count_below level horizon - count_below level 1) × (tally.counts / 1048576 % 1048576 ≡ ticks_at level One horizon)
    × (tally.counts / 1099511627776 ≡ ticks_at level X horizon)
parts_of level horizon tally small is =
    parts tally.counts (count_below level horizon - count_below level 1) (ticks_at level One horizon) (ticks_at level X horizon)
    (omega (arith, small, few_changes level horizon is.begun)) (omega (arith, small, each_tick level horizon))
    (omega (arith, is.counts, at_end level One horizon, at_end level X horizon, least_changes level horizon is.begun))

pub most_of : (level : ℕ → Level) (horizon : ℕ) (tally : Tally) → horizon ≤ 1000000 → IsTally level horizon horizon tally
    → tally.counts / 1048576 % 1048576 + tally.counts / 1099511627776 ≤ horizon
most_of level horizon tally small is = let all = parts_of level horizon tally small is in omega (arith, all.1, all.2, each_tick level horizon)

pub ends : (level : ℕ → Level) (horizon : ℕ) (tally : Tally) (all : Activity) → horizon ≤ 1000000 → all.changes ≡ tally.counts % 1048576
    → all.high ≡ tally.counts / 1048576 % 1048576 → all.unknown ≡ tally.counts / 1099511627776 → all.low ≡ horizon - all.high - all.unknown
    → IsTally level horizon horizon tally → IsActivity level horizon all
ends level horizon tally all small c h u l is =
    let told = parts_of level horizon tally small is in
    record {
      changes = omega (arith, c, told.0, least_changes level horizon is.begun);
      low = omega (arith, l, h, u, told.1, told.2, each_tick level horizon);
      high = h ∙ told.1;
      unknown = u ∙ told.2;
    }
