-- The clocks by which flip-flops sample.
use Rattle.std.specs.Prelude.{ℕ, Bool, ◌==◌, ◌&&◌, not, length}
use Rattle.cmb_netlist.specs.Netlist.{driver_of}
use Rattle.cmb_design_model.specs.Design.{Design}
use Rattle.cmb_design_model.specs.Nets.{is_flop}
use Rattle.cmb_design_model.specs.Settings.{any_below}
use Rattle.cmb_design_model.specs.Timing.{clock_of}
use Rattle.cmb_design_model.specs.declared.rows.Clock.{Clock}
use Rattle.cmb_count.specs.Below.{count_below}

-- clocks are the same that have the same first tick and the same period
abbrev pub same_clock : Clock → Clock → Bool
same_clock one other = one.first == other.first && one.period == other.period

-- a flip-flop with this clock
abbrev pub is_clocked_by : Design → Clock → ℕ → Bool
is_clocked_by design clock net = is_flop (driver_of design.netlist net) && same_clock clock (clock_of design net)

-- a flip-flop whose clock no flip-flop before it has
abbrev pub is_first_clocked : Design → ℕ → Bool
is_first_clocked design net = is_flop (driver_of design.netlist net) && not (any_below (is_clocked_by design (clock_of design net)) net)

-- each clock of a flip-flop counts once
abbrev pub clock_count : Design → ℕ
clock_count design = count_below (is_first_clocked design) (length design.netlist.names)
