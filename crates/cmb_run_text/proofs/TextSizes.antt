-- A text's length fits in 64 bits.
use Rattle.std.proofs.Common.{◌≡◌, ℕ, zero, suc, ◌+◌, ◌*◌, ◌-◌, ◌/◌, ◌%◌, ◌^◌, ◌<◌, ◌≤◌, Bool, true, false, cond, All, List, [], ◌∷◌, length, decimal, length-append, arith}
use Rattle.std.specs.Prelude.{nat_lt}
use Rattle.std.proofs.lemmas.Fmt.{length-decimal-le}
use Rattle.cmb_wave.specs.declared.level.Level.{Level}
use Rattle.cmb_wave.specs.Waveform.{same_level}
use Rattle.cmb_run_text.specs.Vcd.{change_lines, code, code_within, header, is_identifier, level_byte, level_line, level_lines, line, part_text, reference, tick_line, tick_text, ticks_text, under_tick, var_line, var_lines}

cond-short : (b : Bool) (xs ys : List ℕ) (most : ℕ) → length xs ≤ most → length ys ≤ most → length (cond b xs ys) ≤ most
cond-short true xs ys most h k = h
cond-short false xs ys most h k = k

line-length : (bytes : List ℕ) → length (line bytes) ≡ length bytes + 1
line-length bytes = length-append bytes (10 ∷ [])

code_within-short : (bytes net : ℕ) → length (code_within bytes net) ≤ bytes
unfolding code_within
code_within-short zero net = omega arith
code_within-short (suc bytes) net =
    let rest = code_within-short bytes (net / 94 - 1) in
    cond-short (nat_lt net 94) ((33 + net) ∷ []) ((33 + net % 94) ∷ code_within bytes (net / 94 - 1)) (suc bytes) (omega arith) (omega arith)

code-short : (net : ℕ) → length (code net) ≤ net + 1
unfolding code
code-short net = omega (arith, code_within-short (suc net) net)

-- ---- declarations

reference-short : (name : List ℕ) → length (reference name) ≤ length name + 1
unfolding reference
reference-short name = cond-short (is_identifier name) name (92 ∷ name) (length name + 1) (omega arith) (omega arith)

var_line-short : (net : ℕ) (name : List ℕ) → length (var_line net name) ≤ net + length name + 30
unfolding var_line
var_line-short net name =
    let c = code-short net in
    let r = reference-short name in
    simp (length-append) (omega arith)

var_lines-short : (net : ℕ) (names : List (List ℕ)) → net + length names ≤ 65535 → All (λ name. length name ≤ 255) names → length (var_lines net names) ≤ length names * 66000
unfolding var_lines
var_lines-short net [] few short = omega arith
var_lines-short net (name ∷ names) few short =
    let first : length name ≤ 255 = short zero [] (omega arith) in
    let here = var_line-short net name in
    let rest = var_lines-short (suc net) names (omega arith) (λ k d below. short (suc k) d (omega arith)) in
    omega (arith, length-append (var_line net name) (var_lines (suc net) names))

header-short : (names : List (List ℕ)) → length names ≤ 65535 → All (λ name. length name ≤ 255) names → length (header names) ≤ 65535 * 66000 + 200
unfolding header
header-short names few short =
    let vars = var_lines-short 0 names (omega arith) short in
    simp (length-append) (omega arith)

-- ---- ticks

level_line-short : (level : Level) (net : ℕ) → length (level_line level net) ≤ net + 3
unfolding level_line
level_line-short level net = omega (arith, code-short net, line-length (level_byte level ∷ code net))

level_lines-short : (level : ℕ → ℕ → Level) (tick net nets : ℕ) → net + nets ≤ 65535 → length (level_lines level tick net nets) ≤ nets * 65538
unfolding level_lines
level_lines-short level tick net zero few = omega arith
level_lines-short level tick net (suc nets) few =
    let here = level_line-short (level net tick) net in
    let rest = level_lines-short level tick (suc net) nets (omega arith) in
    omega (arith, length-append (level_line (level net tick) net) (level_lines level tick (suc net) nets))

change_lines-short : (level : ℕ → ℕ → Level) (tick net nets : ℕ) → net + nets ≤ 65535 → length (change_lines level tick net nets) ≤ nets * 65538
unfolding change_lines
change_lines-short level tick net zero few = omega arith
change_lines-short level tick net (suc nets) few =
    let same = same_level (level net tick) (level net (suc tick)) in
    let here = cond-short same [] (level_line (level net (suc tick)) net) 65538 (omega arith) (omega (arith, level_line-short (level net (suc tick)) net)) in
    let rest = change_lines-short level tick (suc net) nets (omega arith) in
    omega (arith, length-append (cond same [] (level_line (level net (suc tick)) net)) (change_lines level tick (suc net) nets))

tick_line-short : (tick : ℕ) → tick ≤ 1000000 → length (tick_line tick) ≤ 9
unfolding tick_line
tick_line-short tick small = omega (arith, line-length (35 ∷ decimal tick), length-decimal-le 7 tick (omega arith) (omega arith) (omega arith))

under_tick-short : (tick : ℕ) (lines : List ℕ) → length (under_tick tick lines) ≤ length (tick_line tick) + length lines
under_tick-short tick [] = omega arith
under_tick-short tick (byte ∷ bytes) = omega (arith, length-append (tick_line tick) (byte ∷ bytes))

tick_text-short : (nets : ℕ) (level : ℕ → ℕ → Level) (tick : ℕ) → nets ≤ 65535 → tick ≤ 1000000 → length (tick_text nets level tick) ≤ 4295033000
unfolding tick_text
tick_text-short nets level zero few small =
    let head = tick_line-short 0 small in
    let lines = level_lines-short level 0 0 nets (omega arith) in
    simp (length-append) (omega arith)
tick_text-short nets level (suc tick) few small =
    let head = tick_line-short (suc tick) small in
    let lines = change_lines-short level tick 0 nets (omega arith) in
    omega (arith, under_tick-short (suc tick) (change_lines level tick 0 nets))

ticks_text-short : (nets : ℕ) (level : ℕ → ℕ → Level) (upto : ℕ) → nets ≤ 65535 → upto ≤ 1000000 → length (ticks_text nets level upto) ≤ upto * 4295033000
unfolding ticks_text
ticks_text-short nets level zero few small = omega arith
ticks_text-short nets level (suc tick) few small =
    let here = tick_text-short nets level tick few (omega arith) in
    let rest = ticks_text-short nets level tick few (omega arith) in
    omega (arith, length-append (ticks_text nets level tick) (tick_text nets level tick))

-- a text up to any tick, of nets whose names are as those of a netlist
pub part_text-fits : (names : List (List ℕ)) (horizon : ℕ) (level : ℕ → ℕ → Level) (upto : ℕ) → length names ≤ 65535 → All (λ name. length name ≤ 255) names → horizon ≤ 1000000 → upto ≤ horizon → length (part_text names horizon level upto) < 2 ^ 64
unfolding part_text
part_text-fits names horizon level upto few short small within =
    let head = header-short names few short in
    let ticks = ticks_text-short (length names) level upto few (omega arith) in
    let end = cond-short (nat_lt upto horizon) [] (tick_line horizon) 9 (omega arith) (tick_line-short horizon small) in
    simp (length-append) (omega arith)
