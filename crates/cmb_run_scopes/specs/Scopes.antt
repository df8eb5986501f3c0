-- The declarations with scopes: a name's parts are modules and the net in them, and a net with a number in brackets is a bit of a bus
-- (IEEE 1364-2005, clause 18.2.3).
use Rattle.std.specs.Prelude.{ℕ, zero, suc, ◌+◌, ◌-◌, ◌*◌, Bool, ◌&&◌, ◌==◌, nat_lt, List, [], ◌∷◌, ◌++◌, length, map, filter, flat_map, fold, take, drop, get_or, slice_index, codes, decimal, bytes_eq, if◌then◌else◌}
use Rattle.std.specs.Char.{is_ascii_digit}
use Rattle.std.specs.List.{list_any, range_with_len, slice_split, suffix_len}
use Rattle.indexmap.specs.IndexSet.{insert_all}
use Rattle.cmb_run_text.specs.Vcd.{code, header, line, reference}

-- ---- names

-- what stands between the dots of a name
abbrev pub pieces : List ℕ → List (List ℕ)
pieces name = slice_split (λ byte. byte == 46) name

-- the parts of a name: its pieces, or the whole name where a piece is empty
unfoldable pub parts : List ℕ → List (List ℕ)
parts name = if list_any (λ piece. length piece == 0) (pieces name) then name ∷ [] else pieces name

-- the number that digits tell
abbrev pub number : List ℕ → ℕ
number digits = fold (λ n digit. n * 10 + (digit - 48)) 0 digits

-- a number below 2^31, as it is written: decimal, without leading zeros
abbrev pub is_index : List ℕ → Bool
is_index bytes = nat_lt (number bytes) 2147483648 && bytes_eq bytes (decimal (number bytes))

-- what stands before the last byte
abbrev pub front : List ℕ → List ℕ
front part = take (length part - 1) part

-- where the digits begin that end these bytes
abbrev pub digits_at : List ℕ → ℕ
digits_at bytes = length bytes - suffix_len is_ascii_digit bytes

-- `led` of `led[3]`
abbrev pub bus : List ℕ → List ℕ
bus part = take (digits_at (front part) - 1) (front part)

-- `3` of `led[3]`
abbrev pub index : List ℕ → List ℕ
index part = drop (digits_at (front part)) (front part)

-- a bit of a bus: a name, and behind it its number in brackets
abbrev pub is_bit : List ℕ → Bool
is_bit part =
    slice_index part (length part - 1) == 93 && nat_lt 1 (digits_at (front part)) && slice_index (front part) (digits_at (front part) - 1) == 91
    && is_index (index part)

-- a net as its scope declares it: `led [3]` for `led[3]`
unfoldable pub declared_name : List ℕ → List ℕ
declared_name part = if is_bit part then reference (bus part) ++ codes " [" ++ index part ++ codes "]" else reference part

-- ---- declarations

pub data Declaration : Type 0 where
  scope : List ℕ → Declaration
  net : ℕ → List ℕ → Declaration
  upscope : Declaration

unfoldable pub declaration_line : Declaration → List ℕ
declaration_line (scope part) = line (codes "$scope module " ++ reference part ++ codes " $end")
declaration_line (net place part) = line (codes "$var wire 1 " ++ code place ++ codes " " ++ declared_name part ++ codes " $end")
declaration_line upscope = line (codes "$upscope $end")

-- the parts of a net's name
abbrev pub path : List (List (List ℕ)) → ℕ → List (List ℕ)
path paths place = get_or paths place []

-- the part at a level, that of the outermost scope being 0
abbrev pub part_at : List (List (List ℕ)) → ℕ → ℕ → List ℕ
part_at paths level place = get_or (path paths place) level []

-- the net is declared at this level
abbrev pub is_here : List (List (List ℕ)) → ℕ → ℕ → Bool
is_here paths level place = length (path paths place) == level + 1

-- the net is declared in a scope of this level
abbrev pub is_deeper : List (List (List ℕ)) → ℕ → ℕ → Bool
is_deeper paths level place = nat_lt (level + 1) (length (path paths place))

-- the net is declared in this scope of the level, or in one inside
abbrev pub is_in : List (List (List ℕ)) → ℕ → List ℕ → ℕ → Bool
is_in paths level part place = is_deeper paths level place && bytes_eq (part_at paths level place) part

-- the scopes of a level in which these nets are, each once, in the order of their first nets
abbrev pub scopes : List (List (List ℕ)) → ℕ → List ℕ → List (List ℕ)
scopes paths level places = insert_all bytes_eq [] (map (part_at paths level) (filter (is_deeper paths level) places))

-- What a scope declares, whose nets these are: first those that stand in no scope further inside, and then its scopes. Scopes lie in one
-- another to this depth.
unfoldable pub declarations : ℕ → List (List (List ℕ)) → ℕ → List ℕ → List Declaration
declarations zero paths level places = []
declarations (suc depth) paths level places =
    map (λ place. net place (part_at paths level place)) (filter (is_here paths level) places)
    ++ flat_map (λ part. scope part ∷ declarations depth paths (level + 1) (filter (is_in paths level part) places) ++ upscope ∷ []) (scopes paths level places)

-- the declarations of nets with these names; a name has at most 255 bytes, and so at most 256 parts
abbrev pub declarations_of : List (List ℕ) → List Declaration
declarations_of names = declarations 256 (map parts names) 0 (range_with_len 0 (length names))

abbrev pub declaration_lines : List Declaration → List ℕ
declaration_lines declarations = flat_map declaration_line declarations

-- the lines up to the end of the declarations
unfoldable pub scoped_header : List (List ℕ) → List ℕ
scoped_header names =
    line (codes "$version cmbsim 1 $end") ++ line (codes "$timescale 1 ns $end") ++ line (codes "$scope module top $end")
    ++ declaration_lines (declarations_of names)
    ++ line (codes "$upscope $end") ++ line (codes "$enddefinitions $end")

-- a text with another header in the place of its first bytes
abbrev pub replaced : List ℕ → ℕ → List ℕ → List ℕ
replaced lines plain text = lines ++ drop plain text

-- a text of nets with these names, with the lines with scopes in the place of its own header
unfoldable pub scoped : List (List ℕ) → List ℕ → List ℕ
scoped names text = replaced (scoped_header names) (length (header names)) text

-- a text with scopes, where these are asked for
abbrev pub in_form : Bool → List (List ℕ) → List ℕ → List ℕ
in_form is_scoped names text = if is_scoped then scoped names text else text
