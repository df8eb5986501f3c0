-- Buses: nets whose names are one name with an index behind it, as led[0] and led[1] are bits of led.
use Rattle.std.specs.Prelude.{ℕ, ◌-◌, Bool, false, ◌&&◌, List, [], ◌∷◌, ◌++◌, length, take, slice_index_or, nat_eq, nat_le, Option, None, Some, if◌then◌else◌}
use Rattle.std.specs.List.{list_all}
use Rattle.std.specs.Str.{bytes_eq}

abbrev pub is_digit : ℕ → Bool
is_digit byte = nat_le 48 byte && nat_le byte 57

-- digits, one at least, and the closing bracket, which is last
abbrev pub is_index : List ℕ → Bool
is_index bytes = nat_le 2 (length bytes) && (nat_eq (slice_index_or bytes (length bytes - 1) 0) 93 && list_all is_digit (take (length bytes - 1) bytes))

-- these bytes before those of a bus
abbrev pub behind_bytes : List ℕ → Option (List ℕ) → Option (List ℕ)
behind_bytes front None = None
behind_bytes front (Some bus) = Some (front ++ bus)

-- the bus of which a net with this name is a bit: what stands before the opening bracket of its index
unfoldable pub bus_of : List ℕ → Option (List ℕ)
bus_of [] = None
bus_of (byte ∷ rest) = if nat_eq byte 91 && is_index rest then Some [] else behind_bytes (byte ∷ []) (bus_of rest)

abbrev pub is_this : List ℕ → Option (List ℕ) → Bool
is_this bus None = false
is_this bus (Some other) = bytes_eq bus other

-- a net with this name is a bit of the bus
abbrev pub is_bit : List ℕ → List ℕ → Bool
is_bit bus name = is_this bus (bus_of name)
