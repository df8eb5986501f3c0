-- Where declarations put nets, as who reads them in order has it.
use Rattle.std.specs.Prelude.{ℕ, ◌-◌, List, [], ◌∷◌, ◌++◌, length, take}
use Rattle.cmb_run_scopes.specs.Scopes.{Declaration}
use Rattle.cmb_run_scopes.specs.Scopes.Declaration.{net, scope, upscope}

-- each net that is declared, with the parts of its name: the scopes around it, the outermost first, and its own
abbrev pub declared : List (List ℕ) → List Declaration → List (ℕ × List (List ℕ))
declared around [] = []
declared around (scope part ∷ rest) = declared (around ++ part ∷ []) rest
declared around (net place part ∷ rest) = (place, around ++ part ∷ []) ∷ declared around rest
declared around (upscope ∷ rest) = declared (take (length around - 1) around) rest
