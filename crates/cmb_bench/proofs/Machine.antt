-- Where the tokens so far stand in the grammar, any word being taken as a kind.
use Rattle.std.specs.Prelude.{ℕ, List, [], ◌∷◌, ◌++◌, Bool, true, false, Option, Some, None, option_and_then, if◌then◌else◌, codes, length, nat_lt, nat_le}
use Rattle.cmb_bench.specs.declared.fault.FaultKind.{FaultKind}
use Rattle.cmb_bench.specs.declared.fault.FaultKind.TheVariants as faults
use Rattle.cmb_netlist.specs.declared.netlist.Cell.{Cell}
use Rattle.cmb_bench.specs.Inner.Word.{has_class}
use Rattle.cmb_bench.specs.Statement.{is_member}
use Rattle.cmb_bench.specs.declared.text.Class.TheVariants.{Open, Close, Comma, Equals, End, Bad}
use Rattle.cmb_bench.specs.Text.{Lexeme, Word, name, mark}
use Rattle.cmb_netlist.specs.Kinds.{is_word, cell_of, takes_one}

pub data Place : Type 0 where
  start : Place
  first : List ℕ → Place
  keyed : Bool → Place
  named : Bool → List ℕ → Place
  equalled : List ℕ → Place
  kinded : List ℕ → List ℕ → Place
  listing : List ℕ → List ℕ → Bool → Place
  listed : List ℕ → List ℕ → Bool → Place
  ended : Place

-- the names of the nets that whole statements drive, and the place in the next statement
pub record Stand : Type 0 where
  pub names : List (List ℕ)
  pub place : Place

abbrev pub stand : List (List ℕ) → Place → Option Stand
stand names place = Some (record { names = names; place = place })

-- one more token
abbrev pub go : List (List ℕ) → Place → Word → Option Stand
go names start (name n) = stand names (first n)
go names start (mark End) = stand names ended
go names (first n) (mark Equals) = stand names (equalled n)
go names (first n) (mark Open) = if is_word n (codes "INPUT") then stand names (keyed true) else (if is_word n (codes "OUTPUT") then stand names (keyed false) else None)
go names (keyed input) (name n) = stand names (named input n)
go names (named true n) (mark Close) = stand (names ++ n ∷ []) start
go names (named false n) (mark Close) = stand names start
go names (equalled n) (name k) = stand names (kinded n k)
go names (kinded n k) (mark Open) = stand names (listing n k true)
go names (listing n k only) (name m) = stand names (listed n k only)
go names (listed n k only) (mark Comma) = stand names (listing n k false)
go names (listed n k only) (mark Close) = stand (names ++ n ∷ []) start
go names place word = None

unfoldable pub run : List (List ℕ) → Place → List Lexeme → Option Stand
run names place [] = stand names place
run names place (t ∷ ts) = option_and_then (λ s. run s.names s.place ts) (go names place t.word)

-- ---- the least fault at the next token

abbrev pub or_else : Option FaultKind → Option FaultKind → Option FaultKind
or_else None o = o
or_else (Some k) o = Some k

abbrev pub name_check : List ℕ → Option FaultKind
name_check n = if nat_lt 255 (length n) then Some faults.Name else None

abbrev pub net_check : List (List ℕ) → List ℕ → Option FaultKind
net_check names n = if is_member n names then Some faults.Driven else (if nat_le 65535 (length names) then Some faults.TooMany else None)

abbrev pub kind_check : Option Cell → Option FaultKind
kind_check None = Some faults.Kind
kind_check (Some f) = None

abbrev pub comma_check : Option Cell → Option FaultKind
comma_check None = None
comma_check (Some f) = if takes_one f then Some faults.Operands else None

abbrev pub checked : List (List ℕ) → Place → Word → Option FaultKind
checked names (first n) (mark Equals) = net_check names n
checked names (listed n k true) (mark Comma) = comma_check (cell_of k)
checked names (equalled n) (name k) = or_else (kind_check (cell_of k)) (name_check k)
checked names (keyed true) (name n) = or_else (net_check names n) (name_check n)
checked names place (name n) = name_check n
checked names place word = None

abbrev pub if_taken : Option Stand → Option FaultKind → Option FaultKind
if_taken None o = Some faults.Statement
if_taken (Some s) o = o

abbrev pub verdict : List (List ℕ) → Place → Word → Option FaultKind
verdict names place word = if has_class Bad word then Some faults.Byte else if_taken (go names place word) (checked names place word)
