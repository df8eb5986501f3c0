-- The levels of words of which none is x anywhere: of each, the places that are 1 say all.
use Rattle.std.specs.Prelude.{ℕ, List, [], ◌∷◌}
use Rattle.cmb_wave.specs.declared.level.Level.{Level}
use Rattle.cmb_engine.specs.Inner.Planes.{Planes}
use Rattle.cmb_engine.specs.Inner.Words.{levels_of}

-- the planes of these words
abbrev pub known_planes : List ℕ → List Planes
known_planes [] = []
known_planes (mask ∷ ones) = record { ones = mask; unknown = 0 } ∷ known_planes ones

-- the level of a net in a place, x where there is no such net
abbrev pub known_levels : List ℕ → ℕ → ℕ → Level
known_levels ones = levels_of (known_planes ones)
