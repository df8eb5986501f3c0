-- A word that tells a net's changes has its levels.
use Rattle.std.proofs.Common.{◌≡◌, ℕ, zero, suc, ◌+◌, ◌-◌, ◌<◌, ◌≤◌, ◌⊎◌, inl, inr, refl, ap, sym, ◌∙◌, arith}
use Rattle.std.proofs.lemmas.Bool.{cases_lt}
use Rattle.cmb_wave.specs.declared.level.Level.{Level}
use Rattle.cmb_wave.specs.Waveform.{changes_between, level_at, level_before}
use Rattle.cmb_wave.proofs.Waveforms.{changes_between-agree, level_at-changes_between}
use Rattle.cmb_words.specs.declared.changed.Changed.{Changed}
use Rattle.cmb_words.specs.declared.word.Word.{Word}
use Rattle.cmb_words.specs.Changes.{TellsNet, levels_up_to}
use Rattle.cmb_words.specs.Word.{level_at_place}

-- it has them at the ticks of the window, and at the tick before
pub tells-level : (level : ℕ → ℕ → Level) (from upto : ℕ) (one : Changed) → TellsNet level from upto one
    → (tick : ℕ) → from ≤ suc tick → tick < upto → level_at_place one.word (tick + 64 - upto) ≡ level one.net tick
tells-level level from upto one tells tick late below = go (cases_lt tick from)
  where
    early : (start : ℕ) → start ≡ suc tick → level_before (levels_up_to upto one.word) start ≡ level_before (level one.net) start → levels_up_to upto one.word tick ≡ level one.net tick
    early start at same = rw at at same

    go : (tick < from) ⊎ (from ≤ tick) → levels_up_to upto one.word tick ≡ level one.net tick
    go (inl l) = early from (omega (arith, l, late)) tells.before
    go (inr l) =
        sym (level_at-changes_between (levels_up_to upto one.word) from upto tick l below)
        ∙ rw (tells.before, tells.changes) refl
        ∙ level_at-changes_between (level one.net) from upto tick l below

-- a word that has a net's levels tells its changes
pub levels-tell : (level : ℕ → ℕ → Level) (from upto : ℕ) (one : Changed) → from ≤ upto
    → ((tick : ℕ) → from ≤ suc tick → tick < upto → level_at_place one.word (tick + 64 - upto) ≡ level one.net tick) → TellsNet level from upto one
levels-tell level from upto one order same = record {
  before = early from refl;
  changes =
      changes_between-agree (levels_up_to upto one.word) (level one.net) from upto (early from refl)
      (λ tick late below. same tick (omega (arith, late)) below);
}
  where
    early : (start : ℕ) → from ≡ start → level_before (levels_up_to upto one.word) start ≡ level_before (level one.net) start
    early zero e = refl
    early (suc tick) e = same tick (omega (arith, e)) (omega (arith, e, order))

-- a word tells the changes of any net that has the same levels
pub tells-same : (f g : ℕ → ℕ → Level) (from upto : ℕ) (one other : Changed) → one.word ≡ other.word → ((tick : ℕ) → f one.net tick ≡ g other.net tick)
    → TellsNet f from upto one → TellsNet g from upto other
tells-same f g from upto one other words same tells = record {
  before = ap (λ (word : Word). level_before (levels_up_to upto word) from) (sym words) ∙ tells.before ∙ early from;
  changes =
      ap (λ (word : Word). changes_between (levels_up_to upto word) from upto) (sym words) ∙ tells.changes
      ∙ changes_between-agree (f one.net) (g other.net) from upto (early from) (λ tick late below. same tick);
}
  where
    early : (start : ℕ) → level_before (f one.net) start ≡ level_before (g other.net) start
    early zero = refl
    early (suc tick) = same tick
