-- The list of all faults: a line for each.
use Rattle.std.specs.Prelude.{◌≡◌, ◌≤◌, ◌-◌, ◌^◌, ℕ, List, ◌++◌, codes}
use Rattle.std.specs.Fmt.{format_spec, styled_decimal, styled_text}
use Rattle.cmb_explain.specs.Known.{IsFaultNumber, place_of}
use Rattle.cmb_explain.specs.declared.explanation.Place.{Place}
use Rattle.cmb_explain.specs.declared.explanation.Place.TheVariants.{Line, Record, Listed, Net, Input, Bytes, Nowhere}

-- the word for what stands beside the number of a fault
abbrev pub word_of : Place → List ℕ
word_of Line = codes "line"
word_of Record = codes "record"
word_of Listed = codes "line"
word_of Net = codes "net"
word_of Input = codes "input"
word_of Bytes = codes "bytes"
word_of Nowhere = codes "0"

-- the number at the right of two columns, the word at the left of seven, and the meaning
abbrev pub row : ℕ → List ℕ → List ℕ → List ℕ
row number word meaning =
    styled_decimal (format_spec 32 3 0 2 (2 ^ 64 - 1)) number
    ++ (codes "  " ++ (styled_text (format_spec 32 1 0 7 (2 ^ 64 - 1)) word ++ (codes " " ++ (meaning ++ codes "\n"))))

-- somewhere in the text is the line of the fault with this number
pub record HasRow (text : List ℕ) (number : ℕ) : Type 0 where
  pub before : List ℕ
  pub meaning : List ℕ
  pub after : List ℕ
  pub whole : text ≡ before ++ (row number (word_of (place_of number)) meaning ++ after)

-- the text has a line for each fault up to a number
abbrev pub ListsUpTo : ℕ → List ℕ → Type 0
ListsUpTo last text = (number : ℕ) → number ≤ last → IsFaultNumber number → HasRow text number
