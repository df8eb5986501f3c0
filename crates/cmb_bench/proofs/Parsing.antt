-- One round of the loop over the statements.
use Rattle.std.proofs.Common.{◌≡◌, ℕ, List, [], ◌∷◌, ◌++◌, refl, sym, ap, ◌∙◌, Ok, append_assoc, append-nil}
use Rattle.std.specs.List.{flat_map}
use Rattle.std.proofs.lemmas.Grind.{flat_map-append}
use Rattle.cmb_bench.specs.Text.{Lexeme}
use Rattle.cmb_bench.specs.Statement.{Statement, driven_by, driven}
use Rattle.cmb_bench.specs.Inner.Reading.{statement_at}
use Rattle.cmb_bench.specs.Inner.Building.{Parses}

pub parses_more : (names : List (List ℕ)) (ts : List Lexeme) (ss : List Statement) (mid rest : List Lexeme) (s : Statement) → Parses names ts ss mid → statement_at (names ++ driven ss) mid ≡ Ok (s, rest) → Parses names ts (ss ++ s ∷ []) rest
parses_more names ts [] mid rest s parsed next = (rest, ap (λ l. statement_at names l) parsed ∙ ap (λ n. statement_at n mid) (sym (append-nil names)) ∙ next, refl)
parses_more names ts (x ∷ ss) mid rest s parsed next = (parsed.0, parsed.1, parses_more (names ++ driven_by x) parsed.0 ss mid rest s parsed.2 (ap (λ n. statement_at n mid) (append_assoc names (driven_by x) (driven ss)) ∙ next))

pub parse_round : (ts mid next rest : List Lexeme) (ss : List Statement) (s : Statement) (names : List (List ℕ)) → Parses [] ts ss mid → mid ≡ next → names ≡ driven ss → statement_at names next ≡ Ok (s, rest) → Parses [] ts (ss ++ s ∷ []) rest
parse_round ts mid next rest ss s names parsed mid_is named read = parses_more [] ts ss mid rest s parsed (ap (statement_at (driven ss)) mid_is ∙ ap (λ n. statement_at n next) (sym named) ∙ read)

pub driven_more : (ss : List Statement) (s : Statement) → driven (ss ++ s ∷ []) ≡ driven ss ++ driven_by s
driven_more ss s = flat_map-append driven_by ss (s ∷ []) ∙ ap (λ l. flat_map driven_by ss ++ l) (append-nil (driven_by s))
