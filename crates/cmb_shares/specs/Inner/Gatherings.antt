-- Changes gathered by the nets' numbers, in a table.
use Rattle.std.specs.Prelude.{◌≡◌, ℕ, ◌*◌, ◌/◌, ◌%◌, ◌^◌, ◌<◌, ◌≤◌, ◌⊎◌, ◌||◌, Bool, true, false, List, All, Contains, length, slice_index, slice_index_or}
use Rattle.cmb_words.specs.Bits.{is_set_at}
use Rattle.cmb_words.specs.Changes.{RisesWithin, is_among}
use Rattle.cmb_words.specs.declared.changed.Changed.{Changed}
use Rattle.cmb_words.specs.declared.word.Word.{Word}

-- a word for each net, and the marks of nets, 64 of them in each number
pub record Table : Type 0 where
  pub words : List Word
  pub marks : List ℕ

abbrev pub table_of : List Word → List ℕ → Table
table_of words marks = record { words = words; marks = marks }

-- whether a net is marked
unfoldable pub has : Table → ℕ → Bool
has table net = is_set_at (slice_index table.marks (net / 64)) (net % 64)

-- a change of a marked net, with the net's word
pub record Holds (table : Table) (one : Changed) : Type 0 where
  pub marked : has table one.net ≡ true
  pub word : (d : Word) → slice_index_or table.words one.net d ≡ one.word

-- each marked net has a word, and there is room to mark all that have one
pub record IsTable (table : Table) : Type 0 where
  pub few : length table.words ≤ 2 ^ 16
  pub room : length table.words ≤ 64 * length table.marks
  pub within : (net : ℕ) → has table net ≡ true → net < length table.words

-- a table of so many nets, none of which is marked
pub record IsBlank (count : ℕ) (table : Table) : Type 0 where
  pub nets : length table.words ≡ count
  pub none : (net : ℕ) → has table net ≡ false

-- the changes were added to the old table
pub record Adds (changes : List Changed) (old new : Table) : Type 0 where
  pub len : length new.words ≡ length old.words
  pub marked : (net : ℕ) → has new net ≡ (is_among net changes || has old net)
  pub each : (one : Changed) → Holds new one → Holds old one ⊎ Contains changes one

-- these are the changes of all marked nets below one, by rising number
pub record AreTaken (table : Table) (bound : ℕ) (changes : List Changed) : Type 0 where
  pub rises : RisesWithin 0 bound changes
  pub each : All (Holds table) changes
  pub whole : (net : ℕ) → net < bound → has table net ≡ true → is_among net changes ≡ true
