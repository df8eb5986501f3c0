-- From statements to a netlist, with the first name that no statement drives.
use Rattle.std.specs.Prelude.{◌≡◌, ℕ, List, [], ◌∷◌, ◌++◌, Option, Some, None, Result, Ok, Err, nat_eq, position, false}
use Rattle.std.specs.Str.{bytes_eq}
use Rattle.indexmap.specs.IndexSet.{insert_key}
use Rattle.cmb_bench.specs.declared.fault.BenchFault.{BenchFault}
use Rattle.cmb_bench.specs.declared.fault.FaultKind.TheVariants as faults
use Rattle.cmb_bench.specs.declared.fault.ReadError.{ReadError}
use Rattle.cmb_bench.specs.declared.fault.ReadError.TheVariants as errors
use Rattle.cmb_bench.specs.declared.text.Class.TheVariants.{End}
use Rattle.cmb_bench.specs.Text.{Lexeme, mark}
use Rattle.cmb_bench.specs.Inner.Word.{is_end}
use Rattle.cmb_bench.specs.Statement.{Statement, input, output, drive, Mention, driven_by, driven}
use Rattle.cmb_netlist.specs.declared.netlist.Driver.{Driver}
use Rattle.cmb_netlist.specs.declared.netlist.Driver.TheVariants.{Input}
use Rattle.cmb_bench.specs.Meaning.{driver_from}
use Rattle.cmb_bench.specs.Inner.Reading.{◌>>=◌, Fails, statement_at}

-- the tokens are these statements, one after the other, and then the rest, where nets of these names are driven already
abbrev pub Parses : List (List ℕ) → List Lexeme → List Statement → List Lexeme → Type 0
Parses names ts [] rest = ts ≡ rest
Parses names ts (s ∷ ss) rest = (mid : List Lexeme) × (statement_at names ts ≡ Ok (s, mid)) × Parses (names ++ driven_by s) mid ss rest

-- the end of input isn't next
abbrev pub begins_more : List Lexeme → Type 0
begins_more [] = ⊥
begins_more (t ∷ ts) = is_end t.word ≡ false

abbrev pub numbered : Option ℕ → Mention → Result ℕ BenchFault
numbered None m = Err (record { line = m.line; kind = faults.Undriven })
numbered (Some n) m = Ok n

-- the number of the net that is used
unfoldable pub number_in : List (List ℕ) → Mention → Result ℕ BenchFault
number_in names m = numbered (position (bytes_eq m.name) names) m

unfoldable pub numbers_in : List (List ℕ) → List Mention → Result (List ℕ) BenchFault
numbers_in names [] = Ok []
numbers_in names (m ∷ ms) = do
  n ← number_in names m
  more ← numbers_in names ms
  Ok (n ∷ more)

-- what drives the nets of the statements, and the outputs behind these
unfoldable pub built : List (List ℕ) → List ℕ → List Statement → Result (List Driver × List ℕ) BenchFault
built names outputs [] = Ok ([], outputs)
built names outputs (input n ∷ ss) = do
  more ← built names outputs ss
  Ok (Input ∷ more.0, more.1)
built names outputs (output m ∷ ss) = do
  n ← number_in names m
  built names (insert_key nat_eq outputs n) ss
built names outputs (drive n f ms ∷ ss) = do
  ns ← numbers_in names ms
  more ← built names outputs ss
  Ok (driver_from f ns ∷ more.0, more.1)

abbrev pub with_drivers : List Driver → Result (List Driver × List ℕ) BenchFault → Result (List Driver × List ℕ) BenchFault
with_drivers drivers read = do
  more ← read
  Ok (drivers ++ more.0, more.1)

-- the fault stands behind statements that are the front of the tokens
abbrev pub Fronts : ReadError → List Lexeme → Type 0
Fronts errors.Memory ts = Unit {0}
Fronts (errors.Fault f) ts = (ss : List Statement) × (mid : List Lexeme) × Parses [] ts ss mid × begins_more mid × (statement_at (driven ss) mid ≡ Err f)

-- What a call returned: statements that are all of the tokens, or the fault behind such as are the front of them, unless memory ran out.
abbrev pub Stops : {X : Type 0} → (X → List Statement) → Result X ReadError → List Lexeme → Type 0
Stops view (Ok x) ts = (line : ℕ) × Parses [] ts (view x) (record { word = mark End; line = line } ∷ [])
Stops view (Err e) ts = Fronts e ts

-- Going on from the old drivers and outputs with a statement and any others is going on from the new ones with these others.
abbrev pub Adds : {X : Type 0} → List (List ℕ) → Statement → List Driver → List ℕ → List Driver → List ℕ → Result X ReadError → Type 0
Adds names s drivers outputs more_drivers more_outputs (Ok x) = (ss : List Statement) → with_drivers more_drivers (built names more_outputs ss) ≡ with_drivers drivers (built names outputs (s ∷ ss))
Adds names s drivers outputs more_drivers more_outputs (Err e) = (ss : List Statement) → Fails e (with_drivers drivers (built names outputs (s ∷ ss)))
