-- What a text of waveforms says, line by line.
use Rattle.std.specs.Prelude.{◌≡◌, ℕ, List, [], ◌∷◌, ◌++◌, ◌+◌, ◌-◌, ◌*◌, ◌||◌, Bool, false, nat_eq, if◌then◌else◌}
use Rattle.std.specs.List.{AllByRecursion}
use Rattle.std.specs.Char.{is_ascii_digit}
use Rattle.cmb_report.specs.Progress.{limited}

-- a line has no line feed, and its bytes in a text have one behind them
abbrev pub IsLine : List ℕ → Type 0
IsLine line = AllByRecursion (λ byte. nat_eq byte 10 ≡ false) line

abbrev pub bytes_of : List (List ℕ) → List ℕ
bytes_of [] = []
bytes_of (line ∷ lines) = line ++ 10 ∷ bytes_of lines

-- a line that begins with a level tells a change
abbrev pub tells_change : List ℕ → Bool
tells_change [] = false
tells_change (byte ∷ rest) = nat_eq byte 48 || (nat_eq byte 49 || nat_eq byte 120)

abbrev pub changes_in : List (List ℕ) → ℕ
changes_in [] = 0
changes_in (line ∷ lines) = (if tells_change line then 1 else 0) + changes_in lines

-- the number whose decimal digits are those of another, and behind them those with which a text begins
abbrev pub number_behind : ℕ → List ℕ → ℕ
number_behind number [] = number
number_behind number (byte ∷ rest) =
    if is_ascii_digit byte then number_behind (limited (limited (number * 10) + (byte - 48))) rest else number

-- a line that begins with `#` tells the tick whose digits follow
abbrev pub tick_after : ℕ → List ℕ → ℕ
tick_after tick [] = tick
tick_after tick (byte ∷ rest) = if nat_eq byte 35 then number_behind 0 rest else tick

abbrev pub last_tick : ℕ → List (List ℕ) → ℕ
last_tick tick [] = tick
last_tick tick (line ∷ lines) = last_tick (tick_after tick line) lines
