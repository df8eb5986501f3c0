-- Lists of numbers kept one behind the other.
use Rattle.std.specs.Prelude.{◌≡◌, ℕ, ◌-◌, ◌≤◌, List, [], ◌∷◌, take, drop}

-- the lists of which one begins at a place, and each of the others where the one before it ends
abbrev pub lists_from : List ℕ → ℕ → List ℕ → List (List ℕ)
lists_from items start [] = []
lists_from items start (end ∷ ends) = take (end - start) (drop start items) ∷ lists_from items end ends

-- the lists that begin at all these places but the last, where the last list ends
abbrev pub lists_between : List ℕ → List ℕ → List (List ℕ)
lists_between items [] = []
lists_between items (start ∷ ends) = lists_from items start ends

-- places rise from one on, up to another
abbrev pub RiseTo : ℕ → ℕ → List ℕ → Type 0
RiseTo last start [] = start ≡ last
RiseTo last start (end ∷ ends) = (start ≤ end) × RiseTo last end ends

-- there is a first place, and from it on they rise up to the end of what is kept
abbrev pub AreStarts : ℕ → List ℕ → Type 0
AreStarts last [] = ⊥
AreStarts last (start ∷ ends) = RiseTo last start ends
