-- Nets that drive nothing.
use Rattle.std.specs.Prelude.{ℕ, Bool, not, ◌||◌, List, length, nat_eq}
use Rattle.std.specs.List.{list_any}
use Rattle.cmb_netlist.specs.Netlist.{Netlist, driver_of, pins_of}
use Rattle.cmb_design_model.specs.Settings.{any_below}
use Rattle.cmb_count.specs.Below.{count_below}

-- the net is one of these
abbrev pub is_among : List ℕ → ℕ → Bool
is_among nets net = list_any (nat_eq net) nets

-- a pin of another net's driver, or of its own, reads the net
abbrev pub is_read_by : Netlist → ℕ → ℕ → Bool
is_read_by netlist net reader = is_among (pins_of (driver_of netlist reader)) net

-- the net is an output, or one of the first nets reads it
abbrev pub is_used_below : Netlist → ℕ → ℕ → Bool
is_used_below netlist readers net = is_among netlist.outputs net || any_below (is_read_by netlist net) readers

-- no pin reads the net, and it is no output
abbrev pub is_unused : Netlist → ℕ → Bool
is_unused netlist net = not (is_used_below netlist (length netlist.names) net)

abbrev pub unused_count : Netlist → ℕ
unused_count netlist = count_below (is_unused netlist) (length netlist.names)
