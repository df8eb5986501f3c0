-- The first fault of a text that spells no netlist.
-- Faults 1 to 5, 7 and 8 stand at tokens: the first token at which one stands decides, and at one token the least number.
-- Fault 6, a used name that no statement drives, comes only where none of the others stands anywhere, at the first such name.
use Rattle.std.specs.Prelude.{◌≡◌, ℕ, ◌<◌, ◌≤◌, List, [], ◌∷◌, ◌++◌, length, map, true, false, codes, Some, None, ◌⊎◌}
use Rattle.std.specs.List.{flat_map, AllByRecursion}
use Rattle.cmb_bench.specs.declared.text.Class.TheVariants.{Open, Comma, Equals, Bad}
use Rattle.cmb_bench.specs.declared.fault.BenchFault.{BenchFault}
use Rattle.cmb_bench.specs.declared.fault.FaultKind.{FaultKind}
use Rattle.cmb_bench.specs.declared.fault.FaultKind.TheVariants as faults
use Rattle.cmb_netlist.specs.declared.netlist.Cell.{Cell}
use Rattle.cmb_bench.specs.Text.{Snippet, IsCutting, Lexeme, Word, name, mark, tokens_of}
use Rattle.cmb_netlist.specs.Kinds.{is_word, cell_of, takes_one}
use Rattle.cmb_bench.specs.Statement.{Statement, Mention, used_by, is_member, driven}
use Rattle.cmb_bench.specs.Grammar.{Spells, SpellsAll}

-- any name is taken as any kind
abbrev pub AnyKind : List ℕ → Cell → Type 0
AnyKind word cell = Unit {0}

-- the tokens are those of these statements, and then the rest
abbrev pub Fronted : List Statement → List Lexeme → List Lexeme → Type 0
Fronted [] tokens rest = tokens ≡ rest
Fronted (statement ∷ statements) tokens rest = (behind : List Lexeme) × Spells AnyKind statement tokens behind × Fronted statements behind rest

-- the tokens begin a list of statements: with further tokens they are one, and the end of input
pub record Begins (tokens : List Lexeme) : Type 0 where
  pub more : List Lexeme
  pub statements : List Statement
  pub spelled : SpellsAll AnyKind statements (tokens ++ more)

-- the token says a word, and what stands before it are these statements and then tokens that say these words, on whichever lines
pub record IsBehind (statements : List Statement) (words : List Word) (word : Word) (before : List Lexeme) (t : Lexeme) : Type 0 where
  pub behind : List Lexeme
  pub front : Fronted statements before behind
  pub said : map (λ token. token.word) behind ≡ words
  pub token : t.word ≡ word

-- where a net is driven: the token is the `=` of a driver statement of this net, or its name in an input statement
abbrev pub DrivenAt : List Statement → List ℕ → List Lexeme → Lexeme → Type 0
DrivenAt ss n before t =
    IsBehind ss (name n ∷ []) (mark Equals) before t
    ⊎ ((keyword : List ℕ) × (is_word keyword (codes "INPUT") ≡ true) × IsBehind ss (name keyword ∷ mark Open ∷ []) (name n) before t)

-- the token is this word in the place of KIND
abbrev pub AtKind : List Statement → List ℕ → List ℕ → List Lexeme → Lexeme → Type 0
AtKind ss net word before t = IsBehind ss (name net ∷ mark Equals ∷ []) (name word) before t

-- the token is the first comma among the operands of a driver statement with this kind
abbrev pub AtComma : List Statement → List ℕ → List ℕ → List ℕ → List Lexeme → Lexeme → Type 0
AtComma ss net kind operand before t =
    IsBehind ss (name net ∷ mark Equals ∷ name kind ∷ mark Open ∷ name operand ∷ []) (mark Comma) before t

-- A fault of this kind stands at the token `t`, which has these tokens before it:
-- 1, a bad byte; 2, a token with which the tokens so far begin no list of statements (so the end of input in the middle of one; at a
-- bad byte 1 is less); 3, a name in the place of KIND that names none; 4, a second operand where one is taken; 5, a net that has a
-- driver already; 7, a net that would be numbered 65,535; 8, a name of more than 255 bytes.
abbrev pub StandsAt : FaultKind → List Lexeme → Lexeme → Type 0
StandsAt faults.Byte before t = t.word ≡ mark Bad
StandsAt faults.Statement before t = Begins (before ++ t ∷ []) → ⊥
StandsAt faults.Kind before t = (statements : List Statement) × (net : List ℕ) × (word : List ℕ) × AtKind statements net word before t × (cell_of word ≡ None)
StandsAt faults.Operands before t =
    (statements : List Statement) × (net : List ℕ) × (kind : List ℕ) × (operand : List ℕ) × (cell : Cell)
    × AtComma statements net kind operand before t × (cell_of kind ≡ Some cell) × (takes_one cell ≡ true)
StandsAt faults.Driven before t = (statements : List Statement) × (net : List ℕ) × DrivenAt statements net before t × (is_member net (driven statements) ≡ true)
StandsAt faults.TooMany before t = (statements : List Statement) × (net : List ℕ) × DrivenAt statements net before t × (65535 ≤ length (driven statements))
StandsAt faults.Name before t = (n : List ℕ) × (t.word ≡ name n) × (255 < length n)
StandsAt faults.Undriven before t = ⊥
StandsAt faults.Memory before t = ⊥

-- the numbers of the faults
abbrev pub number_of_fault : FaultKind → ℕ
number_of_fault faults.Byte = 1
number_of_fault faults.Statement = 2
number_of_fault faults.Kind = 3
number_of_fault faults.Operands = 4
number_of_fault faults.Driven = 5
number_of_fault faults.Undriven = 6
number_of_fault faults.TooMany = 7
number_of_fault faults.Name = 8
number_of_fault faults.Memory = 70

-- no fault stands at any of the tokens that have fewer than `limit` tokens before them
abbrev pub NoneBelow : List Lexeme → ℕ → Type 0
NoneBelow tokens limit = (before : List Lexeme) (t : Lexeme) (after : List Lexeme) (kind : FaultKind) → tokens ≡ before ++ t ∷ after → length before < limit → StandsAt kind before t → ⊥

-- the fault stands at the first token at which one stands, and is the least there
pub record FirstAt (tokens : List Lexeme) (f : BenchFault) : Type 0 where
  pub before : List Lexeme
  pub token : Lexeme
  pub after : List Lexeme
  pub is : tokens ≡ before ++ token ∷ after
  pub stands : StandsAt f.kind before token
  pub line : f.line ≡ token.line
  pub least : (kind : FaultKind) → StandsAt kind before token → number_of_fault f.kind ≤ number_of_fault kind
  pub earlier : NoneBelow tokens (length before)

-- the first name that the statements use and don't drive
pub record FirstUndriven (ss : List Statement) (f : BenchFault) : Type 0 where
  pub before : List Mention
  pub mention : Mention
  pub after : List Mention
  pub is : flat_map used_by ss ≡ before ++ mention ∷ after
  pub earlier : AllByRecursion (λ m. is_member m.name (driven ss) ≡ true) before
  pub missing : is_member mention.name (driven ss) ≡ false
  pub fault : f ≡ record { line = mention.line; kind = faults.Undriven }

-- no other fault stands anywhere, and of the names that the statements use and don't drive this is the first
pub record OnlyUndriven (tokens : List Lexeme) (f : BenchFault) : Type 0 where
  pub none : NoneBelow tokens (length tokens)
  pub statements : List Statement
  pub spelled : SpellsAll AnyKind statements tokens
  pub first : FirstUndriven statements f

-- the first fault of the bytes
pub record IsFirstFault (bytes : List ℕ) (f : BenchFault) : Type 0 where
  pub snippets : List Snippet
  pub cut : IsCutting bytes snippets
  pub fault : FirstAt (tokens_of snippets) f ⊎ OnlyUndriven (tokens_of snippets) f

-- what is answered where memory runs out
abbrev pub out_of_memory : BenchFault
out_of_memory = record { line = 0; kind = faults.Memory }
