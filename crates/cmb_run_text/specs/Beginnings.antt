-- A sink that took a beginning of a text.
use Rattle.std.specs.Prelude.{◌≡◌, ℕ, ◌+◌, ◌<◌, List, Option, length, take}
use Rattle.std.specs.Io.KnownBytes.{Appends}

-- the sink took a beginning of the text
abbrev pub HasBegun : List ℕ → Option (List ℕ) → Option (List ℕ) → Type 0
HasBegun text old new = (n : ℕ) × Appends old new (take n text)

-- the sink failed after it took so many bytes of the text, which has more
pub record IsCutOff (text : List ℕ) (old new : Option (List ℕ)) (before after written : ℕ) : Type 0 where
  pub short : written < length text
  pub begun : Appends old new (take written text)
  pub failed : after ≡ before + 1
