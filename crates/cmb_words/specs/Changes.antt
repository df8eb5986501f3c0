-- What the words of the nets that changed in a window tell of a waveform, given as the level of each net at each tick.
use Rattle.std.specs.Prelude.{◌≡◌, ℕ, suc, ◌+◌, ◌-◌, ◌<◌, ◌≤◌, Bool, false, ◌==◌, List, [], ◌∷◌}
use Rattle.std.specs.List.{All, list_any}
use Rattle.cmb_wave.specs.Waveform.{changes_between, level_before}
use Rattle.cmb_wave.specs.declared.level.Level.{Level}
use Rattle.cmb_words.specs.declared.changed.Changed.{Changed}
use Rattle.cmb_words.specs.declared.word.Word.{Word}
use Rattle.cmb_words.specs.Word.{level_at_place}

-- the numbers of the nets rise, from one on, and are below another
abbrev pub RisesWithin : ℕ → ℕ → List Changed → Type 0
RisesWithin low nets [] = Unit {0}
RisesWithin low nets (changed ∷ rest) = (low ≤ changed.net) × (changed.net < nets) × RisesWithin (suc changed.net) nets rest

-- the nets that changed, of so many, at the ticks of [from, upto) in a run up to a horizon: a word has room for all of these and the tick before them
pub record IsWindow (count horizon from upto : ℕ) (changed : List Changed) : Type 0 where
  pub late : 1 ≤ from
  pub order : from < upto
  pub short : upto ≤ from + 63
  pub within : upto ≤ horizon
  pub nets : RisesWithin 0 count changed

-- the levels of a word whose last tick is the one before `upto`
abbrev pub levels_up_to : ℕ → Word → ℕ → Level
levels_up_to upto word tick = level_at_place word (tick + 64 - upto)

-- a net's word tells its changes at the ticks of [from, upto), and its level before them
pub record TellsNet (level : ℕ → ℕ → Level) (from upto : ℕ) (changed : Changed) : Type 0 where
  pub before : level_before (levels_up_to upto changed.word) from ≡ level_before (level changed.net) from
  pub changes : changes_between (levels_up_to upto changed.word) from upto ≡ changes_between (level changed.net) from upto

-- no change at the ticks of [from, upto)
abbrev pub IsStill : (ℕ → Level) → ℕ → ℕ → Type 0
IsStill level from upto = changes_between level from upto ≡ []

abbrev pub is_among : ℕ → List Changed → Bool
is_among net changed = list_any (λ c. c.net == net) changed

-- the words tell all changes of so many nets at the ticks of [from, upto)
pub record Tells (level : ℕ → ℕ → Level) (nets from upto : ℕ) (changed : List Changed) : Type 0 where
  pub words : All (TellsNet level from upto) changed
  pub others : (net : ℕ) → net < nets → is_among net changed ≡ false → IsStill (level net) from upto
