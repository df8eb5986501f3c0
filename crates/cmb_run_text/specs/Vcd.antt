-- The text of levels that are told tick by tick: a four-state value change dump (IEEE 1364-2005, clause 18.2), of one scope and of wires of one bit.
use Rattle.std.specs.Prelude.{ℕ, zero, suc, ◌+◌, ◌-◌, ◌/◌, ◌%◌, Bool, false, ◌&&◌, ◌||◌, ◌==◌, nat_lt, List, [], ◌∷◌, ◌++◌, length, codes, decimal, if◌then◌else◌}
use Rattle.std.specs.Char.{is_ascii_alphabetic, is_ascii_alphanumeric}
use Rattle.std.specs.List.{list_all}
use Rattle.cmb_wave.specs.declared.level.Level.{Level}
use Rattle.cmb_wave.specs.declared.level.Level.TheVariants.{Zero, One, X}
use Rattle.cmb_wave.specs.Waveform.{same_level}
use Rattle.cmb_design_model.specs.Design.{Design}
use Rattle.cmb_design_model.specs.Value.{value}

abbrev pub line : List ℕ → List ℕ
line bytes = bytes ++ 10 ∷ []

-- ---- identifier codes

-- a code of at most so many bytes
unfoldable pub code_within : ℕ → ℕ → List ℕ
code_within zero net = []
code_within (suc bytes) net =
    let rest = code_within bytes (net / 94 - 1) in
    if nat_lt net 94 then (33 + net) ∷ [] else (33 + net % 94) ∷ rest

-- a net's identifier code: the printable bytes from `!` to `~` are the digits, the least significant first
unfoldable pub code : ℕ → List ℕ
unfolding code_within
code net = code_within (suc net) net

-- ---- declarations

abbrev pub begins_identifier : ℕ → Bool
begins_identifier byte = is_ascii_alphabetic byte || byte == 95

abbrev pub continues_identifier : ℕ → Bool
continues_identifier byte = is_ascii_alphanumeric byte || byte == 95 || byte == 36

-- a simple identifier: a letter or `_`, then letters, digits, `_` and `$` (clause 3.7)
abbrev pub is_identifier : List ℕ → Bool
is_identifier [] = false
is_identifier (byte ∷ bytes) = begins_identifier byte && list_all continues_identifier bytes

-- a name as Verilog writes it: where it is no simple identifier it is escaped by a backslash before it (clause 3.7.1). A keyword isn't escaped, since readers of such a text take it as a name
unfoldable pub reference : List ℕ → List ℕ
reference name = if is_identifier name then name else 92 ∷ name

unfoldable pub var_line : ℕ → List ℕ → List ℕ
var_line net name = line (codes "$var wire 1 " ++ code net ++ codes " " ++ reference name ++ codes " $end")

-- the declarations of the nets with these names, the first of which is net `net`
unfoldable pub var_lines : ℕ → List (List ℕ) → List ℕ
var_lines net [] = []
var_lines net (name ∷ names) = var_line net name ++ var_lines (suc net) names

-- the lines up to the end of the declarations, of nets with these names
unfoldable pub header : List (List ℕ) → List ℕ
header names =
    line (codes "$version cmbsim 1 $end") ++ line (codes "$timescale 1 ns $end") ++ line (codes "$scope module top $end")
    ++ var_lines 0 names
    ++ line (codes "$upscope $end") ++ line (codes "$enddefinitions $end")

-- ---- ticks

-- the simulation time: all lines up to the next one hold from this tick on
unfoldable pub tick_line : ℕ → List ℕ
tick_line tick = line (35 ∷ decimal tick)

abbrev pub level_byte : Level → ℕ
level_byte Zero = 48
level_byte One = 49
level_byte X = 120

unfoldable pub level_line : Level → ℕ → List ℕ
level_line level net = line (level_byte level ∷ code net)

-- the levels at a tick of so many nets, the first of which is net `net`
unfoldable pub level_lines : (ℕ → ℕ → Level) → ℕ → ℕ → ℕ → List ℕ
level_lines level tick net zero = []
level_lines level tick net (suc nets) = level_line (level net tick) net ++ level_lines level tick (suc net) nets

-- the levels one tick later of those of so many nets, the first of which is net `net`, whose level is another then
unfoldable pub change_lines : (ℕ → ℕ → Level) → ℕ → ℕ → ℕ → List ℕ
change_lines level tick net zero = []
change_lines level tick net (suc nets) =
    (if same_level (level net tick) (level net (suc tick)) then [] else level_line (level net (suc tick)) net) ++ change_lines level tick (suc net) nets

-- lines under their tick's own line, if there are any
abbrev pub under_tick : ℕ → List ℕ → List ℕ
under_tick tick [] = []
under_tick tick (byte ∷ bytes) = tick_line tick ++ byte ∷ bytes

-- all levels at tick 0; at a later tick those that change
unfoldable pub tick_text : ℕ → (ℕ → ℕ → Level) → ℕ → List ℕ
tick_text nets level zero = tick_line 0 ++ line (codes "$dumpvars") ++ level_lines level 0 0 nets ++ line (codes "$end")
tick_text nets level (suc tick) = under_tick (suc tick) (change_lines level tick 0 nets)

-- the texts of the ticks below this one
unfoldable pub ticks_text : ℕ → (ℕ → ℕ → Level) → ℕ → List ℕ
ticks_text nets level zero = []
ticks_text nets level (suc tick) = ticks_text nets level tick ++ tick_text nets level tick

-- the text of nets with these names as far as their levels are known below a tick; where that is the horizon, with its last line
unfoldable pub part_text : List (List ℕ) → ℕ → (ℕ → ℕ → Level) → ℕ → List ℕ
part_text names horizon level upto =
    header names ++ ticks_text (length names) level upto ++ (if nat_lt upto horizon then [] else tick_line horizon)

-- the whole text
abbrev pub text_of : List (List ℕ) → ℕ → (ℕ → ℕ → Level) → List ℕ
text_of names horizon level = part_text names horizon level horizon

-- the text of a design
unfoldable pub vcd : Design → List ℕ
vcd design = text_of design.netlist.names design.horizon (value design)
