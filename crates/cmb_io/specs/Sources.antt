-- What it means that a source was read whole.
use Rattle.std.specs.Prelude.{◌≡◌, ℕ, ◌<◌, ◌≤◌, List, length, Option, None, Some, ⊤}

-- the bytes that an input may have at most
abbrev pub input_limit : ℕ
input_limit = 16777216

-- these are all the bytes that a source had, where it tells them
abbrev pub AreAll : Option (List ℕ) → List ℕ → Type 0
AreAll None text = ⊤
AreAll (Some bytes) text = text ≡ bytes

-- this is the whole text of a source, and no longer than an input may be
pub record IsWhole (known : Option (List ℕ)) (text : List ℕ) : Type 0 where
  pub all : AreAll known text
  pub fits : length text ≤ input_limit

-- a source had more bytes than an input may have, where it tells them
abbrev pub IsTooLong : Option (List ℕ) → Type 0
IsTooLong None = ⊤
IsTooLong (Some bytes) = input_limit < length bytes
