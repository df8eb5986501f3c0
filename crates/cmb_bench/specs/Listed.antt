-- The nets that a list of names stands for. A list's text is cut into tokens as a netlist's is, so blanks and comments are the same. A name
-- stands for the net that has it; a name that no net has stands for the bits of the bus that has it.
use Rattle.std.specs.Prelude.{◌≡◌, ℕ, Bool, true, false, not, ◌&&◌, ◌||◌, List, [], ◌∷◌, length, Option, None, Some, is_none, if◌then◌else◌, ⊤}
use Rattle.std.specs.List.{filter, list_any, range_with_len}
use Rattle.std.specs.Str.{bytes_eq}
use Rattle.cmb_bench.specs.declared.listed.ListFault.{ListFault}
use Rattle.cmb_bench.specs.declared.listed.ListFault.TheVariants.{Memory, Unknown}
use Rattle.cmb_bench.specs.declared.text.Class.TheVariants.{End}
use Rattle.cmb_bench.specs.Buses.{bus_of, is_bit}
use Rattle.cmb_netlist.specs.Netlist.{Netlist, name_of, number_of}
use Rattle.cmb_bench.specs.Text.{IsCutting, Lexeme, Snippet, Word, mark, name, tokens_of}

-- some net is a bit of the bus with this name
abbrev pub is_bus : Netlist → List ℕ → Bool
is_bus netlist bus = list_any (is_bit bus) netlist.names

-- a token that is the name of no net and of no bus; the end of the list isn't meant as one
abbrev pub is_unknown : Netlist → Word → Bool
is_unknown netlist (name bytes) = is_none (number_of netlist bytes) && not (is_bus netlist bytes)
is_unknown netlist (mark End) = false
is_unknown netlist (mark class) = true

-- the line of the first such token
unfoldable pub unknown_line : Netlist → List Lexeme → Option ℕ
unknown_line netlist [] = None
unknown_line netlist (token ∷ tokens) = if is_unknown netlist token.word then Some token.line else unknown_line netlist tokens

abbrev pub is_name : List ℕ → Word → Bool
is_name bytes (name other) = bytes_eq bytes other
is_name bytes (mark class) = false

-- a token is this name
abbrev pub is_said : List Lexeme → List ℕ → Bool
is_said tokens bytes = list_any (λ token. is_name bytes token.word) tokens

-- the name of the bus is said, and no net has it
abbrev pub is_meant_by_bus : Netlist → (List ℕ → Bool) → Option (List ℕ) → Bool
is_meant_by_bus netlist said None = false
is_meant_by_bus netlist said (Some bus) = is_none (number_of netlist bus) && said bus

-- the net's name is said, or that of the bus of which it is a bit
abbrev pub is_meant : Netlist → (List ℕ → Bool) → ℕ → Bool
is_meant netlist said net = said (name_of netlist net) || is_meant_by_bus netlist said (bus_of (name_of netlist net))

-- the numbers of the nets that are meant, each once and rising
abbrev pub meant_nets : Netlist → (List ℕ → Bool) → List ℕ
meant_nets netlist said = filter (is_meant netlist said) (range_with_len 0 (length netlist.names))

-- each token of the text is a name of a net or of a bus, and these are the numbers of the nets that the text means
pub record Lists (netlist : Netlist) (bytes numbers : List ℕ) : Type 0 where
  pub snippets : List Snippet
  pub cut : IsCutting bytes snippets
  pub known : unknown_line netlist (tokens_of snippets) ≡ None
  pub are : numbers ≡ meant_nets netlist (is_said (tokens_of snippets))

-- the first token of the text that is neither stands on this line
pub record HasUnknown (netlist : Netlist) (bytes : List ℕ) (line : ℕ) : Type 0 where
  pub snippets : List Snippet
  pub cut : IsCutting bytes snippets
  pub first : unknown_line netlist (tokens_of snippets) ≡ Some line

-- why a text is no list of nets: memory aside, a token that is neither
abbrev pub IsRefused : Netlist → List ℕ → ListFault → Type 0
IsRefused netlist bytes (Unknown line) = HasUnknown netlist bytes line
IsRefused netlist bytes Memory = ⊤
