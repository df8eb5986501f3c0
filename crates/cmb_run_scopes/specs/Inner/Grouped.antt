-- Scopes with their nets, and what a net more makes of them.
use Rattle.std.specs.Prelude.{ℕ, List, [], ◌∷◌, ◌++◌, bytes_eq, filter, map, if◌then◌else◌}
use Rattle.std.specs.List.{list_any}
use Rattle.cmb_run_scopes.specs.Scopes.{is_in, scopes}

abbrev pub Scope : Type 0
Scope = List ℕ × List ℕ

abbrev pub first : Scope → List ℕ
first scope = scope.0

-- each scope of a level with those of the nets that are in it
abbrev pub grouped : List (List (List ℕ)) → ℕ → List ℕ → List Scope
grouped paths level places = map (λ name. (name, filter (is_in paths level name) places)) (scopes paths level places)

-- the scope of this name has this net too
abbrev pub with_net : List ℕ → ℕ → Scope → Scope
with_net name place scope = (scope.0, scope.1 ++ (if bytes_eq name scope.0 then place ∷ [] else []))

-- the scope of this name has this net too, and is opened where there is none
abbrev pub placed : List ℕ → ℕ → List Scope → List Scope
placed name place scopes = map (with_net name place) scopes ++ (if list_any (bytes_eq name) (map first scopes) then [] else (name, place ∷ []) ∷ [])
