-- Which numbers the faults of a simulation have, and what stands beside the number.
use Rattle.std.specs.Prelude.{◌≡◌, ◌≤◌, ◌⊎◌, ℕ, nat_le, nat_eq, ◌||◌, ◌&&◌, if◌then◌else◌}
use Rattle.cmb_explain.specs.declared.explanation.Place.{Place}
use Rattle.cmb_explain.specs.declared.explanation.Place.TheVariants.{Line, Record, Listed, Net, Input, Bytes, Nowhere}

-- from one number to another, both included
abbrev pub Within : ℕ → ℕ → ℕ → Type 0
Within low high number = (low ≤ number) × (number ≤ high)

-- of the netlist
abbrev pub IsNetlistFault : ℕ → Type 0
IsNetlistFault number = Within 1 8 number

-- of a table
abbrev pub IsTableFault : ℕ → Type 0
IsTableFault number = Within 23 32 number ⊎ (Within 34 37 number ⊎ (number ≡ 39))

-- of the settings, and of what mode plain can run
abbrev pub IsSettingsFault : ℕ → Type 0
IsSettingsFault number = Within 20 22 number ⊎ ((number ≡ 33) ⊎ ((number ≡ 40) ⊎ (number ≡ 54)))

-- of the list of nets, of the run, its inputs and its output
abbrev pub IsRunningFault : ℕ → Type 0
IsRunningFault number = (number ≡ 38) ⊎ ((number ≡ 53) ⊎ (Within 60 62 number ⊎ (number ≡ 70)))

abbrev pub IsFaultNumber : ℕ → Type 0
IsFaultNumber number = IsNetlistFault number ⊎ (IsTableFault number ⊎ (IsSettingsFault number ⊎ IsRunningFault number))

-- what the second number of the line of a fault is
abbrev pub place_of : ℕ → Place
place_of number =
    if nat_le number 8 then Line
    else if (nat_le 23 number && nat_le number 32) || ((nat_le 34 number && nat_le number 37) || nat_eq number 39) then Record
    else if nat_eq number 38 then Listed
    else if nat_eq number 53 then Net
    else if nat_eq number 60 || nat_eq number 61 then Input
    else if nat_eq number 62 then Bytes
    else Nowhere
