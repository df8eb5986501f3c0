-- A gate in two steps: its operands' levels are joined, one by one, and then some kinds invert what came of it.
use Rattle.std.specs.Prelude.{List}
use Rattle.cmb_wave.specs.declared.level.Level.{Level}
use Rattle.cmb_netlist.specs.declared.netlist.Kind.{Kind}
use Rattle.cmb_netlist.specs.declared.netlist.Kind.TheVariants.{And, Nand, Or, Nor, Xor, Xnor, Not, Buff}
use Rattle.cmb_design_model.specs.Gate.{conjunction, disjunction, parity, single}

-- what a gate of a kind makes of its operands' levels before it inverts: NAND, NOR, XNOR and NOT as AND, OR, XOR and BUFF
abbrev pub joint : Kind → List Level → Level
joint And levels = conjunction levels
joint Nand levels = conjunction levels
joint Or levels = disjunction levels
joint Nor levels = disjunction levels
joint Xor levels = parity levels
joint Xnor levels = parity levels
joint Not levels = single levels
joint Buff levels = single levels
