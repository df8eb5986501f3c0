-- The fields of a record as the readers of tables see them.
use Rattle.std.specs.Prelude.{◌==◌, ◌||◌, ◌&&◌, ◌+◌, ◌*◌, ◌-◌, ℕ, Bool, List, [], ◌∷◌, Option, Some, None, if◌then◌else◌, map, nat_le, length, reverse, fold}
use Rattle.std.specs.Char.{is_ascii_digit}
use Rattle.std.specs.List.{list_all}

-- spaces and tabs
abbrev pub is_blank : ℕ → Bool
is_blank b = (b == 32) || (b == 9)

-- a field without the blanks at its front
abbrev pub trim_front : List ℕ → List ℕ
trim_front [] = []
trim_front (b ∷ bs) = if is_blank b then trim_front bs else b ∷ bs

-- a field without the blanks at its back
abbrev pub trim_back : List ℕ → List ℕ
trim_back field = reverse (trim_front (reverse field))

-- a field without the blanks at its ends
unfoldable pub trimmed : List ℕ → List ℕ
trimmed field = trim_back (trim_front field)

-- the fields of a record, trimmed
abbrev pub fields_in : List (List ℕ) → List (List ℕ)
fields_in fields = map trimmed fields

-- a number is 1 to 10 digits
abbrev pub is_number : List ℕ → Bool
is_number field = nat_le 1 (length field) && nat_le (length field) 10 && list_all is_ascii_digit field

-- the value of a list of digits
abbrev pub decimal : List ℕ → ℕ
decimal field = fold (λ n digit. n * 10 + (digit - 48)) 0 field

-- the number that a field spells
unfoldable pub number : List ℕ → Option ℕ
number field = if is_number field then Some (decimal field) else None

-- what stands before and after the last colon
unfoldable pub split_pin : List ℕ → Option (List ℕ × List ℕ)
split_pin [] = None
split_pin (b ∷ bs) = split_on b bs (split_pin bs)
  where
    split_on : ℕ → List ℕ → Option (List ℕ × List ℕ) → Option (List ℕ × List ℕ)
    split_on b bs (Some p) = Some (b ∷ p.0, p.1)
    split_on b bs None = if b == 58 then Some ([], bs) else None
