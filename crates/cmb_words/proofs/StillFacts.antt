-- A waveform without changes has one level.
use Rattle.std.proofs.Common.{◌≡◌, ℕ, zero, suc, ◌+◌, ◌-◌, ◌<◌, ◌≤◌, [], ◌++◌, ◌⊎◌, inl, inr, refl, ap, sym, ◌∙◌, arith}
use Rattle.std.proofs.lemmas.Bool.{cases_lt}
use Rattle.cmb_wave.specs.declared.level.Level.{Level}
use Rattle.cmb_wave.specs.Waveform.{change_at, changes_in, changes_between, level_at, level_before}
use Rattle.cmb_wave.proofs.Lists.{same_level-same}
use Rattle.cmb_wave.proofs.Waveforms.{changes_between-agree, changes_between-append, level_at-changes_between}
use Rattle.cmb_words.specs.Changes.{IsStill}

-- where nothing changes, each tick has the level of the tick before
pub still-ticks : (level : ℕ → Level) (from upto : ℕ) → IsStill level from upto → (tick : ℕ) → from ≤ suc tick → suc tick < upto → level tick ≡ level (suc tick)
still-ticks level from upto still tick late below = go (cases_lt tick from) ∙ held (suc tick) late below
  where
    held : (t : ℕ) → from ≤ t → t < upto → level_before level from ≡ level t
    held t a b = ap (λ changes. level_at (level_before level from) changes t) (sym still) ∙ level_at-changes_between level from upto t a b

    go : (tick < from) ⊎ (from ≤ tick) → level tick ≡ level_before level from
    go (inl l) = ap (level_before level) (let e : suc tick ≡ from = omega (arith, l, late) in e)
    go (inr l) = sym (held tick l (omega (arith, below)))

change-none : (level : ℕ → Level) (tick : ℕ) → level_before level tick ≡ level tick → change_at level tick ≡ []
unfolding change_at
change-none level tick same = rw (same_level-same _ _ same)

changes-none : (level : ℕ → Level) (from ticks : ℕ) → 1 ≤ from → ((tick : ℕ) → from ≤ suc tick → suc tick < from + ticks → level tick ≡ level (suc tick)) → changes_in level from ticks ≡ []
unfolding changes_in
changes-none level from zero some same = refl
changes-none level zero (suc ticks) some same = absurd (omega (arith, some))
changes-none level (suc from) (suc ticks) some same =
    rw (change-none level (suc from) (same from (omega arith) (omega arith)))
    (changes-none level (suc (suc from)) ticks (omega arith) (λ tick late below. same tick (omega (arith, late)) (omega (arith, below))))

-- where each tick has the level of the tick before, nothing changes
pub ticks-still : (level : ℕ → Level) (from upto : ℕ) → 1 ≤ from → ((tick : ℕ) → from ≤ suc tick → suc tick < upto → level tick ≡ level (suc tick)) → IsStill level from upto
unfolding changes_between
ticks-still level from upto some same =
    changes-none level from (upto - from) some (λ tick late below. same tick late (omega (arith, late, below)))

-- no tick, no change
pub still-empty : (level : ℕ → Level) (from upto : ℕ) → upto ≤ from → IsStill level from upto
unfolding changes_between
still-empty level from upto none = let e : upto - from ≡ zero = omega (arith, none) in rw e

-- a waveform that agrees with a still one, the tick before included, is still
pub still-agrees : (f g : ℕ → Level) (from upto : ℕ) → ((tick : ℕ) → from ≤ suc tick → tick < upto → f tick ≡ g tick) → IsStill f from upto → IsStill g from upto
still-agrees f g from upto same still = go (cases_lt from upto)
  where
    before : (tick : ℕ) → from ≡ tick → from < upto → level_before f tick ≡ level_before g tick
    before zero e l = refl
    before (suc tick) e l = same tick (omega (arith, e)) (omega (arith, e, l))

    go : (from < upto) ⊎ (upto ≤ from) → IsStill g from upto
    go (inl l) = sym (changes_between-agree f g from upto (before from refl l) (λ tick late below. same tick (omega (arith, late)) below)) ∙ still
    go (inr l) = still-empty g from upto l

-- a still waveform has the level of the tick before throughout
pub still-level : (level : ℕ → Level) (from upto tick : ℕ) → 1 ≤ from → IsStill level from upto → from ≤ suc tick → tick < upto → level tick ≡ level (from - 1)
still-level level from upto zero some still late below = ap level (omega (arith, some, late))
still-level level from upto (suc tick) some still late below = go (cases_lt (suc tick) from) (still-level level from upto tick some still)
  where
    go : (suc tick < from) ⊎ (from ≤ suc tick) → (from ≤ suc tick → tick < upto → level tick ≡ level (from - 1)) → level (suc tick) ≡ level (from - 1)
    go (inl l) so_far = ap level (omega (arith, l, late))
    go (inr l) so_far = sym (still-ticks level from upto still tick l below) ∙ so_far l (omega (arith, below))

-- a waveform that is still in two spans that meet is so in both
pub still-append : (level : ℕ → Level) (from mid upto : ℕ) → from ≤ mid → mid ≤ upto → IsStill level from mid → IsStill level mid upto → IsStill level from upto
still-append level from mid upto early late first second =
    sym (changes_between-append level from mid upto early late) ∙ ap (λ changes. changes ++ changes_between level mid upto) first ∙ second
