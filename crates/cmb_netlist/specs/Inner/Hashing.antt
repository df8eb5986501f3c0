-- What a name feeds a hasher.
use Rattle.std.specs.Prelude.{ℕ, List, [], ◌∷◌}

-- all its bytes in one write
abbrev pub fed_name : List ℕ → List (List ℕ)
fed_name name = name ∷ []
