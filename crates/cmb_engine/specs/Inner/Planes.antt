-- Words by their two planes, as they are kept: the places of a word that are 1, and those that are x.
use Rattle.std.specs.Prelude.{◌≡◌, ℕ, Bool, true, List, [], ◌∷◌, length, slice_index}
use Rattle.cmb_words.specs.Bits.{Apart}
use Rattle.cmb_words.specs.declared.word.Word.{Word}

-- the planes of a word
pub record Planes : Type 0 where
  pub ones : ℕ
  pub unknown : ℕ

abbrev pub planes_of : Word → Planes
planes_of word = record { ones = word.ones; unknown = word.unknown }

-- the words of two lists, one of each plane
abbrev pub planes_in : List ℕ → List ℕ → List Planes
planes_in [] unknown = []
planes_in (mask ∷ ones) [] = []
planes_in (mask ∷ ones) (other ∷ unknown) = record { ones = mask; unknown = other } ∷ planes_in ones unknown

-- two lists are of the planes of words: no place is in both, and where `known` says so none is x
pub record AreWords (ones unknown : List ℕ) (known : Bool) : Type 0 where
  pub same : length unknown ≡ length ones
  pub apart : (slot : ℕ) → Apart (slice_index ones slot) (slice_index unknown slot)
  pub clear : known ≡ true → (slot : ℕ) → slice_index unknown slot ≡ 0
