-- A gate with two operands made of one AND, one XOR and masks that are the same for all its places.
use Rattle.std.specs.Prelude.{Bool, true, false, if◌then◌else◌}
use Rattle.cmb_wave.specs.declared.level.Level.{Level}
use Rattle.cmb_netlist.specs.declared.netlist.Kind.{Kind}
use Rattle.cmb_netlist.specs.declared.netlist.Kind.TheVariants.{Nand, Or, Nor, Xor, Xnor, Not, Buff}
use Rattle.cmb_design_model.specs.Gate.{inverse_of}

-- the level, inverted or not
abbrev pub inverse_if : Bool → Level → Level
inverse_if inverts level = if inverts then inverse_of level else level

-- whether the operands are inverted before AND, by De Morgan's law
abbrev pub inverts_operands : Kind → Bool
inverts_operands Or = true
inverts_operands Nor = true
inverts_operands _ = false

-- whether the second operand doesn't count
abbrev pub ignores_second : Kind → Bool
ignores_second Not = true
ignores_second Buff = true
ignores_second _ = false

-- whether XOR counts in the place of AND
abbrev pub is_parity : Kind → Bool
is_parity Xor = true
is_parity Xnor = true
is_parity _ = false

-- whether the result is inverted
abbrev pub inverts_result : Kind → Bool
inverts_result Nand = true
inverts_result Or = true
inverts_result Xnor = true
inverts_result Not = true
inverts_result _ = false
