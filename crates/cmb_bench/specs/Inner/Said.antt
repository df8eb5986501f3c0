-- The names that a list has.
use Rattle.std.specs.Prelude.{◌≡◌, ℕ, List, None}
use Rattle.cmb_bench.specs.Inner.Snippet.{snippets_of}
use Rattle.cmb_bench.specs.Listed.{is_said, unknown_line}
use Rattle.cmb_bench.specs.Statement.{is_member}
use Rattle.cmb_bench.specs.Text.{tokens_of}
use Rattle.cmb_netlist.specs.Netlist.{Netlist}

-- each token of the text is known, and these are the names that are said
pub record AreSaid (netlist : Netlist) (bytes : List ℕ) (names : List (List ℕ)) : Type 0 where
  pub known : unknown_line netlist (tokens_of (snippets_of bytes)) ≡ None
  pub said : (name : List ℕ) → is_member name names ≡ is_said (tokens_of (snippets_of bytes)) name
