-- Reading the tokens from left to right, with the first fault that is met.
use Rattle.std.specs.Prelude.{◌≡◌, ℕ, List, [], ◌∷◌, ◌++◌, length, Option, Some, None, Result, Ok, Err, nat_lt, nat_le, if◌then◌else◌, codes}
use Rattle.cmb_bench.specs.declared.fault.BenchFault.{BenchFault}
use Rattle.cmb_bench.specs.declared.fault.FaultKind.{FaultKind}
use Rattle.cmb_bench.specs.declared.fault.FaultKind.TheVariants as faults
use Rattle.cmb_bench.specs.declared.fault.ReadError.{ReadError}
use Rattle.cmb_bench.specs.declared.fault.ReadError.TheVariants as errors
use Rattle.cmb_netlist.specs.declared.netlist.Cell.{Cell}
use Rattle.cmb_bench.specs.declared.text.Class.{Class}
use Rattle.cmb_bench.specs.declared.text.Class.TheVariants.{Open, Close, Bad, Comma, Equals}
use Rattle.cmb_bench.specs.Text.{Lexeme}
use Rattle.cmb_bench.specs.Inner.Word.{has_class, name_in}
use Rattle.cmb_netlist.specs.Kinds.{is_word, cell_of, takes_one}
use Rattle.cmb_bench.specs.Statement.{Statement, input, output, drive, Mention, is_member}

infixl 10 ◌>>=◌
abbrev pub ◌>>=◌ : {A B : Type 0} → Result A BenchFault → (A → Result B BenchFault) → Result B BenchFault
(Ok x) >>= f = f x
(Err e) >>= f = Err e

-- a call's error is the fault that reading gives, unless memory ran out
abbrev pub Fails : {Y : Type 0} → ReadError → Result Y BenchFault → Type 0
Fails errors.Memory read = Unit {0}
Fails (errors.Fault f) read = read ≡ Err f

abbrev pub Gives : {X Y : Type 0} → (X → Y) → Result X ReadError → Result Y BenchFault → Type 0
Gives view (Ok x) read = read ≡ Ok (view x)
Gives view (Err e) read = Fails e read

abbrev pub fault_at : Lexeme → FaultKind → BenchFault
fault_at t kind = record { line = t.line; kind = kind }

-- the fault of a token that no statement goes on with
abbrev pub misplaced : Lexeme → BenchFault
misplaced t = if has_class Bad t.word then fault_at t faults.Byte else fault_at t faults.Statement

abbrev pub next_in : List Lexeme → Result (Lexeme × List Lexeme) BenchFault
next_in [] = Err (record { line = 0; kind = faults.Statement })
next_in (t ∷ ts) = Ok (t, ts)

abbrev pub named : Option (List ℕ) → Lexeme → Result (List ℕ) BenchFault
named None t = Err (misplaced t)
named (Some name) t = Ok name

abbrev pub short : List ℕ → Lexeme → Result (List ℕ) BenchFault
short name t = if nat_lt 255 (length name) then Err (fault_at t faults.Name) else Ok name

-- the name that a token is, where it isn't too long
unfoldable pub short_name : Lexeme → Result (List ℕ) BenchFault
short_name t = do
  name ← named (name_in t.word) t
  short name t

-- what comes behind a mark of this class
unfoldable pub marked : Class → List Lexeme → Result (List Lexeme) BenchFault
marked class ts = do
  t ← next_in ts
  if has_class class t.0.word then Ok t.1 else Err (misplaced t.0)

-- the name of a net that is used
unfoldable pub used_name : List Lexeme → Result (Mention × List Lexeme) BenchFault
used_name ts = do
  t ← next_in ts
  name ← short_name t.0
  Ok (record { name = name; line = t.0.line }, t.1)

-- the names of the driven nets with one more, where a fault stands at this token
unfoldable pub with_net : List (List ℕ) → List ℕ → Lexeme → Result (List (List ℕ)) BenchFault
with_net names name t =
    if is_member name names then Err (fault_at t faults.Driven)
    else (if nat_le 65535 (length names) then Err (fault_at t faults.TooMany)
    else (if nat_lt 255 (length name) then Err (fault_at t faults.Name)
    else Ok (names ++ name ∷ [])))

abbrev pub with_first : Mention → Result (List Mention × List Lexeme) BenchFault → Result (List Mention × List Lexeme) BenchFault
with_first m read = do
  more ← read
  Ok (m ∷ more.0, more.1)

-- the operands behind the opening mark, up to the closing one
unfoldable pub operands_at : Cell → List Lexeme → Result (List Mention × List Lexeme) BenchFault
operands_at f [] = Err (record { line = 0; kind = faults.Statement })
operands_at f (t ∷ []) = do
  name ← short_name t
  Err (record { line = 0; kind = faults.Statement })
operands_at f (t ∷ u ∷ ts) = do
  name ← short_name t
  if has_class Comma u.word then (if takes_one f then Err (fault_at u faults.Operands) else with_first (record { name = name; line = t.line }) (operands_at f ts))
      else (if has_class Close u.word then Ok (record { name = name; line = t.line } ∷ [], ts) else Err (misplaced u))

abbrev pub cell_in : Option Cell → Lexeme → Result Cell BenchFault
cell_in None t = Err (fault_at t faults.Kind)
cell_in (Some f) t = Ok f

-- a driver statement behind its `=`
unfoldable pub driver_at : List (List ℕ) → List ℕ → Lexeme → List Lexeme → Result (Statement × List Lexeme) BenchFault
driver_at names name equals ts = do
  added ← with_net names name equals
  t ← next_in ts
  kind ← named (name_in t.0.word) t.0
  f ← cell_in (cell_of kind) t.0
  rest ← marked Open t.1
  operands ← operands_at f rest
  Ok (drive name f operands.0, operands.1)

-- an input statement behind its opening mark, with the names of the driven nets
unfoldable pub input_at : List (List ℕ) → List Lexeme → Result (Statement × List Lexeme) BenchFault
input_at names ts = do
  t ← next_in ts
  name ← named (name_in t.0.word) t.0
  added ← with_net names name t.0
  rest ← marked Close t.1
  Ok (input name, rest)

unfoldable pub output_at : List Lexeme → Result (Statement × List Lexeme) BenchFault
output_at ts = do
  m ← used_name ts
  rest ← marked Close m.1
  Ok (output m.0, rest)

-- a statement with this keyword, behind its opening mark
unfoldable pub keyword_at : List (List ℕ) → List ℕ → Lexeme → List Lexeme → Result (Statement × List Lexeme) BenchFault
keyword_at names keyword place ts =
    if is_word keyword (codes "INPUT") then input_at names ts
    else (if is_word keyword (codes "OUTPUT") then output_at ts else Err (misplaced place))

-- the statement at the front, where nets of these names are driven already
unfoldable pub statement_at : List (List ℕ) → List Lexeme → Result (Statement × List Lexeme) BenchFault
statement_at names ts = do
  t ← next_in ts
  name ← short_name t.0
  u ← next_in t.1
  if has_class Equals u.0.word then driver_at names name u.0 u.1 else (if has_class Open u.0.word then keyword_at names name u.0 u.1 else Err (misplaced u.0))
