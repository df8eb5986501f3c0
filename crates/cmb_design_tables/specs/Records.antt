-- The records of a text of a table.
use Rattle.std.specs.Prelude.{◌≡◌, ◌+◌, map, ℕ, false, true, List, [], length, Option, Some, None}
use denote.Ref.{Bor}
use Rattle.cmb_design_tables.specs.Fields.{fields_in}
use Rattle.csv.specs.Machine.{ends_at_end}
use Rattle.csv.specs.Reading.{Ready, default_config, is_flexible, reader_config, reader_state, reader_trim, records, records_from, source_of, strip_bom}
use Rattle.csv.specs.declared.parser.State.{State}
use Rattle.csv.specs.declared.reader.Reader.{Reader}
use Rattle.csv.specs.declared.reader.Trim.TheVariants as trim

-- the records of a text, each a list of fields, as `csv` reads them with its defaults and no header taken away
unfoldable pub records_of : List ℕ → List (List (List ℕ))
records_of text = records default_config (strip_bom text)

-- the records of a table: those of its text, with no blanks at the ends of fields
abbrev pub table_records : List ℕ → List (List (List ℕ))
table_records text = map fields_in (records_of text)

-- the bytes that a reader over a slice has left, if it has not failed
abbrev pub unread : Reader (Bor (List ℕ)) → Option (List ℕ)
unread r = source_of (λ s. Some s.now) r

-- the records of the bytes that are left
abbrev pub records_at : State → Option (List ℕ) → List (List (List ℕ))
records_at s None = []
records_at s (Some bytes) = records_from default_config (length bytes + 1) s bytes

-- the records that a reader has left
unfoldable pub records_left : Reader (Bor (List ℕ)) → List (List (List ℕ))
records_left r = records_at (reader_state r) (unread r)

-- a reader between two records of a text
pub record IsReading (r : Reader (Bor (List ℕ))) : Type 0 where
  pub plain : reader_trim r ≡ trim.None
  pub ready : Ready r
  pub defaults : reader_config r ≡ default_config
  pub of_any_length : is_flexible r ≡ true
  pub known : (bytes : List ℕ) × (unread r ≡ Some bytes)
  pub between : ends_at_end (reader_state r) ≡ false
