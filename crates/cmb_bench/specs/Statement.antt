-- Statements: `INPUT(net)`, `OUTPUT(net)`, and `net = KIND(operand, ..)` with one operand or more.
use Rattle.std.specs.Prelude.{ℕ, List, [], ◌∷◌, Bool}
use Rattle.std.specs.List.{flat_map, list_any}
use Rattle.std.specs.Str.{bytes_eq}
use Rattle.cmb_netlist.specs.declared.netlist.Cell.{Cell}

-- a name that is used, and the line on which it stands
pub record Mention : Type 0 where
  pub name : List ℕ
  pub line : ℕ

-- what a statement says; a driver statement has its net, what its KIND names, and its operands
pub data Statement : Type 0 where
  input : List ℕ → Statement
  output : Mention → Statement
  drive : List ℕ → Cell → List Mention → Statement

-- the name of the net that a statement drives: an input statement and a driver statement drive one net
abbrev pub driven_by : Statement → List (List ℕ)
driven_by (input net) = net ∷ []
driven_by (output used) = []
driven_by (drive net cell operands) = net ∷ []

-- the names of the nets that the statements drive, in order
abbrev pub driven : List Statement → List (List ℕ)
driven statements = flat_map driven_by statements

-- the names that a statement uses
abbrev pub used_by : Statement → List Mention
used_by (input net) = []
used_by (output used) = used ∷ []
used_by (drive net cell operands) = operands

-- whether the name is one of these; names are compared byte by byte
abbrev pub is_member : List ℕ → List (List ℕ) → Bool
is_member name names = list_any (bytes_eq name) names
