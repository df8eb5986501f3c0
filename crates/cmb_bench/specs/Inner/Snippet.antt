-- The cutting of a text, computed.
use Rattle.std.specs.Prelude.{◌≡◌, ℕ, List, [], ◌∷◌, true, if◌then◌else◌}
use Rattle.cmb_bench.specs.declared.text.Class.{Class}
use Rattle.cmb_bench.specs.declared.text.Class.TheVariants.{White}
use Rattle.cmb_bench.specs.Text.{class_of, continues, is_token, Snippet}

-- the bytes at the front that go on a snippet of this class
abbrev pub front : Class → List ℕ → List ℕ
front class [] = []
front class (b ∷ bs) = if continues class b then b ∷ front class bs else []

-- the snippets behind them
abbrev pub snippets_after : Class → List ℕ → List Snippet
snippets_after class [] = []
snippets_after class (b ∷ bs) =
    if continues class b then snippets_after class bs
    else record { class = class_of b; bytes = b ∷ front (class_of b) bs } ∷ snippets_after (class_of b) bs

abbrev pub snippets_of : List ℕ → List Snippet
snippets_of bytes = snippets_after White bytes

-- the first snippet is a token, if there is one
abbrev pub BeginsToken : List ℕ → Type 0
BeginsToken [] = Unit {0}
BeginsToken (b ∷ bs) = is_token (class_of b) ≡ true
