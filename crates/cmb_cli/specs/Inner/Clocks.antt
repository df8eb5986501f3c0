-- The value of `--clock`.
use Rattle.std.specs.Prelude.{◌≡◌, ℕ, List, ◌∷◌, ◌++◌, Option, None, Some, codes, ⊤}
use Rattle.std.specs.Str.Parse.{digits_value, without_leading_plus}
use Rattle.clap.specs.Matches.{first_value}
use Rattle.clap.specs.declared.parser.matches.Found.{Found}

-- the digits of a text are those of a number
abbrev pub Spells : List ℕ → ℕ → Type 0
Spells text number = number ≡ digits_value 10 (without_leading_plus text)

-- the text is F:P, with the first sample tick before the period
pub record IsClock (text : List ℕ) (first period : ℕ) : Type 0 where
  pub before : List ℕ
  pub after : List ℕ
  pub parts : text ≡ before ++ 58 ∷ after
  pub first_is : Spells before first
  pub period_is : Spells after period

-- a clock is the one that the line's words give
abbrev pub IsClockIn : Found → Option (ℕ × ℕ) → Type 0
IsClockIn found None = ⊤
IsClockIn found (Some clock) = (text : List ℕ) × (first_value found (codes "clock") ≡ Some text) × IsClock text clock.0 clock.1
