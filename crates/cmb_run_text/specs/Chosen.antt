-- The text of some nets of a design.
use Rattle.std.specs.Prelude.{ℕ, List, map, slice_index}
use Rattle.cmb_netlist.specs.Netlist.{Netlist, name_of}
use Rattle.cmb_design_model.specs.Design.{Design}
use Rattle.cmb_design_model.specs.Value.{value}
use Rattle.cmb_run_text.specs.Vcd.{text_of}

-- the names of nets, in the order of a list
abbrev pub names_of : Netlist → List ℕ → List (List ℕ)
names_of netlist nets = map (name_of netlist) nets

-- the text of chosen nets: the declarations and the levels of these alone, each with the code of its place in the list
unfoldable pub vcd_of : Design → List ℕ → List ℕ
vcd_of design nets = text_of (names_of design.netlist nets) design.horizon (λ place. value design (slice_index nets place))
