-- The words that are read without regard to case.
use Rattle.std.specs.Prelude.{ℕ, List, [], ◌∷◌, Bool, true, false, Option, option_map, find, codes}
use Rattle.std.specs.Str.{str_eq_ignore_ascii_case}
use Rattle.cmb_netlist.specs.declared.netlist.Kind.TheVariants.{And, Nand, Or, Nor, Xor, Xnor, Not, Buff}
use Rattle.cmb_netlist.specs.declared.netlist.Cell.{Cell}
use Rattle.cmb_netlist.specs.declared.netlist.Cell.TheVariants.{Gate, Flop}

-- whether two texts are one, where an ASCII letter counts in either case as the same
abbrev pub is_word : List ℕ → List ℕ → Bool
is_word text word = str_eq_ignore_ascii_case text word

-- the nine kinds' words, and BUF, which is read as BUFF
abbrev pub kind_words : List (List ℕ × Cell)
kind_words =
    (codes "AND", Gate And) ∷ (codes "NAND", Gate Nand) ∷ (codes "OR", Gate Or) ∷ (codes "NOR", Gate Nor)
    ∷ (codes "XOR", Gate Xor) ∷ (codes "XNOR", Gate Xnor) ∷ (codes "NOT", Gate Not)
    ∷ (codes "BUFF", Gate Buff) ∷ (codes "BUF", Gate Buff) ∷ (codes "DFF", Flop) ∷ []

-- what a word in the place of a kind names
unfoldable pub cell_of : List ℕ → Option Cell
cell_of word = option_map (λ entry. entry.1) (find (λ entry. is_word word entry.0) kind_words)

-- whether a gate of this kind, or the flip-flop, takes exactly one operand; each other takes one or more
abbrev pub takes_one : Cell → Bool
takes_one (Gate Not) = true
takes_one (Gate Buff) = true
takes_one Flop = true
takes_one _ = false
