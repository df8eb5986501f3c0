-- The gate functions: the tables of IEEE 1364-2005, 7.2 (and, nand, or, nor, xor, xnor) and 7.3 (buf, not), restricted to 0, 1 and x.
use Rattle.std.specs.Prelude.{◌%◌, ◌==◌, List, [], ◌∷◌, count_by, if◌then◌else◌}
use Rattle.std.specs.List.{list_any, list_all}
use Rattle.cmb_wave.specs.declared.level.Level.{Level}
use Rattle.cmb_wave.specs.declared.level.Level.TheVariants.{Zero, One, X}
use Rattle.cmb_wave.specs.Waveform.{same_level}
use Rattle.cmb_netlist.specs.declared.netlist.Kind.{Kind}
use Rattle.cmb_netlist.specs.declared.netlist.Kind.TheVariants.{And, Nand, Or, Nor, Xor, Xnor, Not, Buff}

-- 0 if any is 0, 1 if all are 1, else x
abbrev pub conjunction : List Level → Level
conjunction levels =
    if list_any (same_level Zero) levels then Zero else (if list_all (same_level One) levels then One else X)

-- 1 if any is 1, 0 if all are 0, else x
abbrev pub disjunction : List Level → Level
disjunction levels =
    if list_any (same_level One) levels then One else (if list_all (same_level Zero) levels then Zero else X)

-- x if any is x, else whether the number of ones is odd
abbrev pub parity : List Level → Level
parity levels =
    if list_any (same_level X) levels then X else (if count_by (same_level One) levels % 2 == 1 then One else Zero)

-- 1 for 0, 0 for 1, x for x
abbrev pub inverse_of : Level → Level
inverse_of Zero = One
inverse_of One = Zero
inverse_of X = X

-- the one operand
abbrev pub single : List Level → Level
single [] = X
single (level ∷ levels) = level

-- the level that a gate of a kind gives for the levels on its pins
abbrev pub gate : Kind → List Level → Level
gate And levels = conjunction levels
gate Nand levels = inverse_of (conjunction levels)
gate Or levels = disjunction levels
gate Nor levels = inverse_of (disjunction levels)
gate Xor levels = parity levels
gate Xnor levels = inverse_of (parity levels)
gate Not levels = inverse_of (single levels)
gate Buff levels = single levels
