-- Statements as a grammar over the tokens, and what makes them lawful.
-- `Spells.. tokens rest` says that the tokens are those of what is spelled, and then the rest.
use Rattle.std.specs.Prelude.{◌≡◌, ℕ, ◌<◌, ◌≤◌, List, [], ◌∷◌, ◌++◌, length, true, false, codes}
use Rattle.cmb_bench.specs.declared.text.Class.TheVariants.{Open, Close, Comma, Equals, End}
use Rattle.cmb_netlist.specs.declared.netlist.Cell.{Cell}
use Rattle.cmb_bench.specs.Text.{Lexeme, Word, name, mark}
use Rattle.cmb_netlist.specs.declared.netlist.Cell.TheVariants.{Gate, Flop}
use Rattle.cmb_netlist.specs.Kinds.{is_word}
use Rattle.cmb_netlist.specs.Netlist.{MayTake}
use Rattle.cmb_bench.specs.Statement.{Statement, input, output, drive, Mention, driven_by, is_member}

-- a token on a line
abbrev pub at : Word → ℕ → Lexeme
at word line = record { word = word; line = line }

-- the token of a name that is used
abbrev pub said : Mention → Lexeme
said used = at (name used.name) used.line

-- one operand or more, parted by commas, and the `)`
abbrev pub SpellsOperands : List Mention → List Lexeme → List Lexeme → Type 0
SpellsOperands [] tokens rest = ⊥
SpellsOperands (used ∷ []) tokens rest = (l : ℕ) × (tokens ≡ said used ∷ at (mark Close) l ∷ rest)
SpellsOperands (used ∷ other ∷ others) tokens rest =
    (l : ℕ) × (behind : List Lexeme) × (tokens ≡ said used ∷ at (mark Comma) l ∷ behind) × SpellsOperands (other ∷ others) behind rest

-- one statement, its tokens on whichever lines; `Names word cell` says that this word in the place of KIND names that cell
abbrev pub Spells : (Names : List ℕ → Cell → Type 0) → Statement → List Lexeme → List Lexeme → Type 0
Spells Names (input net) tokens rest =
    (word : List ℕ) × (a : ℕ) × (b : ℕ) × (c : ℕ) × (d : ℕ) × (is_word word (codes "INPUT") ≡ true)
    × (tokens ≡ at (name word) a ∷ at (mark Open) b ∷ at (name net) c ∷ at (mark Close) d ∷ rest)
Spells Names (output used) tokens rest =
    (word : List ℕ) × (a : ℕ) × (b : ℕ) × (d : ℕ) × (is_word word (codes "OUTPUT") ≡ true)
    × (tokens ≡ at (name word) a ∷ at (mark Open) b ∷ said used ∷ at (mark Close) d ∷ rest)
Spells Names (drive net cell operands) tokens rest =
    (word : List ℕ) × (a : ℕ) × (b : ℕ) × (c : ℕ) × (d : ℕ) × (behind : List Lexeme) × Names word cell
    × (tokens ≡ at (name net) a ∷ at (mark Equals) b ∷ at (name word) c ∷ at (mark Open) d ∷ behind) × SpellsOperands operands behind rest

-- a list of statements, also the empty one, and then the end of input
abbrev pub SpellsAll : (Names : List ℕ → Cell → Type 0) → List Statement → List Lexeme → Type 0
SpellsAll Names [] tokens = (l : ℕ) × (tokens ≡ at (mark End) l ∷ [])
SpellsAll Names (statement ∷ statements) tokens = (behind : List Lexeme) × Spells Names statement tokens behind × SpellsAll Names statements behind

-- a name has at most 255 bytes
abbrev pub IsShort : List ℕ → Type 0
IsShort net = length net ≤ 255

abbrev pub AreShort : List Mention → Type 0
AreShort [] = Unit {0}
AreShort (used ∷ others) = IsShort used.name × AreShort others

-- where nets of these names are driven, one more net may be driven under this name: it has no driver yet, and there are at
-- most 65,535 nets
pub record IsNew (names : List (List ℕ)) (net : List ℕ) : Type 0 where
  pub other : is_member net names ≡ false
  pub few : length names < 65535
  pub short : IsShort net

-- as many operands as the kind takes: one of NOT, BUFF and DFF, one or more of the others
abbrev pub HasArity : Cell → List Mention → Type 0
HasArity (Gate kind) operands = MayTake kind (length operands)
HasArity Flop operands = length operands ≡ 1

-- the statement may stand behind others that drive nets of these names
abbrev pub IsLawful : List (List ℕ) → Statement → Type 0
IsLawful names (input net) = IsNew names net
IsLawful names (output used) = IsShort used.name
IsLawful names (drive net cell operands) = IsNew names net × HasArity cell operands × AreShort operands

-- each of the statements may stand behind those before it
abbrev pub AreLawful : List (List ℕ) → List Statement → Type 0
AreLawful names [] = Unit {0}
AreLawful names (statement ∷ statements) = IsLawful names statement × AreLawful (names ++ driven_by statement) statements
