-- What is given of a window: the words of nets that others drive.
use Rattle.std.specs.Prelude.{◌≡◌, ℕ, ◌<◌, ◌≤◌, ◌&&◌, Bool, true, false, List, Contains}
use Rattle.cmb_wave.specs.declared.level.Level.{Level}
use Rattle.cmb_words.specs.declared.changed.Changed.{Changed}
use Rattle.cmb_words.specs.Changes.{IsStill, TellsNet, is_among}
use Rattle.cmb_words.specs.Word.{level_at_place}
use Rattle.cmb_engine.specs.Inner.Roles.{gives}
use Rattle.cmb_engine.specs.declared.role.Role.{Role}

-- whether a net is a given one and among what is given
abbrev pub is_written : List Role → List Changed → ℕ → Bool
is_written roles given net = gives roles net && is_among net given

-- the words tell what the given nets do at the ticks of [from, upto)
pub record AreGiven (level : ℕ → ℕ → Level) (roles : List Role) (from upto : ℕ) (given : List Changed) : Type 0 where
  pub words : (one : Changed) → Contains given one → gives roles one.net ≡ true → TellsNet level from upto one
  pub others : (net : ℕ) → gives roles net ≡ true → is_among net given ≡ false → IsStill (level net) from upto

-- the words of those given nets that are among some changes were written from a place on
pub record AreWritten (roles : List Role) (given : List Changed) (old new : ℕ → ℕ → Level) (first : ℕ) : Type 0 where
  pub past : (slot place : ℕ) → place < first → new slot place ≡ old slot place
  pub others : (slot place : ℕ) → is_written roles given slot ≡ false → new slot place ≡ old slot place
  pub written : (level : ℕ → ℕ → Level)
      → ((one : Changed) → Contains given one → gives roles one.net ≡ true → (place : ℕ) → first ≤ place → place < 64 → level_at_place one.word place ≡ level one.net place)
      → (slot place : ℕ) → is_written roles given slot ≡ true → first ≤ place → place < 64 → new slot place ≡ level slot place
