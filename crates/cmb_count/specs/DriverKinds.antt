-- Nets by what drives them.
use Rattle.std.specs.Prelude.{ℕ, Bool, ◌==◌, ◌&&◌, length, nat_le}
use Rattle.cmb_netlist.specs.Netlist.{Netlist, driver_of}
use Rattle.cmb_netlist.specs.declared.netlist.Driver.{Driver}
use Rattle.cmb_design_model.specs.Design.{Design}
use Rattle.cmb_design_model.specs.Nets.{driver_cell, is_at, is_flop, is_input, kind_number}
use Rattle.cmb_design_model.specs.Timing.{clock_of, stimulus}
use Rattle.cmb_wave.specs.Waveform.{changes_between}
use Rattle.cmb_count.specs.Below.{count_below}
use Rattle.cmb_count.specs.declared.drivers.DriverKind.{DriverKind}
use Rattle.cmb_count.specs.declared.drivers.DriverKind.TheVariants.{Inputs, Gates, Flops}

-- the driver is of this kind: an INPUT, a gate of this kind, or a flip-flop
abbrev pub has_kind : DriverKind → Driver → Bool
has_kind Inputs driver = is_input driver
has_kind (Gates kind) driver = is_at (driver_cell driver) (kind_number kind)
has_kind Flops driver = is_flop driver

-- how many nets are driven by drivers of a kind
abbrev pub kind_count : Netlist → DriverKind → ℕ
kind_count netlist wanted = count_below (λ net. has_kind wanted (driver_of netlist net)) (length netlist.names)

-- an input that is x at each tick below the horizon
abbrev pub is_silent : Design → ℕ → Bool
is_silent design net = is_input (driver_of design.netlist net) && length (changes_between (stimulus design net) 0 design.horizon) == 0

abbrev pub silent_count : Design → ℕ
silent_count design = count_below (is_silent design) (length design.netlist.names)

-- a flip-flop with no sample tick below the horizon
abbrev pub is_still : Design → ℕ → Bool
is_still design net = is_flop (driver_of design.netlist net) && nat_le design.horizon (clock_of design net).first

abbrev pub still_count : Design → ℕ
still_count design = count_below (is_still design) (length design.netlist.names)
