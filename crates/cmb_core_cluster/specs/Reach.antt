-- The tick up to which a process can go: by the clocks of its input channels and its pins' delays, which are the lookahead (Fujimoto 1990).
use Rattle.std.specs.Prelude.{ℕ, suc, ◌+◌, ◌-◌, ◌≤◌, min, List, [], ◌∷◌, unwrap_or}
use Rattle.cmb_netlist.specs.declared.netlist.Driver.{Driver}
use Rattle.cmb_netlist.specs.declared.netlist.Driver.TheVariants.{Input, Gate, Flop}
use Rattle.cmb_netlist.specs.Netlist.{driver_of}
use Rattle.cmb_design_model.specs.Design.{Design}
use Rattle.cmb_design_model.specs.Timing.{delay, clock_of, last_sample, next_sample}

-- the least over the pins of the operand's clock plus the pin's delay, at most `most`
abbrev pub pins_reach : Design → (ℕ → ℕ) → ℕ → ℕ → ℕ → List ℕ → ℕ
pins_reach design clock net most pin [] = most
pins_reach design clock net most pin (operand ∷ operands) =
    min (clock operand + delay design net pin) (pins_reach design clock net most (suc pin) operands)

-- by a driver, where `clock` tells how far each net is known; never above the horizon
abbrev pub driver_reach : Design → (ℕ → ℕ) → ℕ → Driver → ℕ
driver_reach design clock net Input = design.horizon
driver_reach design clock net (Gate kind operands) = pins_reach design clock net design.horizon 1 operands
driver_reach design clock net (Flop source) =
    min (next_sample (clock_of design net) (clock source) + delay design net 1) design.horizon

abbrev pub reach_by : Design → (ℕ → ℕ) → ℕ → ℕ
reach_by design clock net = driver_reach design clock net (driver_of design.netlist net)

-- the earliest tick at which a gate with this output clock still looks at a pin
abbrev pub gate_need : Design → ℕ → ℕ → ℕ → ℕ
gate_need design net pin clock = clock - delay design net pin

-- the earliest tick at which a flip-flop with this output clock still looks at its data
abbrev pub flop_need : Design → ℕ → ℕ → ℕ
flop_need design net clock = unwrap_or (last_sample (clock_of design net) (clock - delay design net 1)) 0

-- from its base on, each net on a pin is kept as early as the gate still looks at it
abbrev pub AreKept : Design → (ℕ → ℕ) → ℕ → ℕ → ℕ → List ℕ → Type 0
AreKept design base net clock pin [] = Unit {0}
AreKept design base net clock pin (operand ∷ operands) =
    (base operand ≤ gate_need design net pin clock) × AreKept design base net clock (suc pin) operands

-- the same for any driver
abbrev pub IsKept : Design → (ℕ → ℕ) → ℕ → ℕ → Driver → Type 0
IsKept design base net clock Input = Unit {0}
IsKept design base net clock (Gate kind operands) = AreKept design base net clock 1 operands
IsKept design base net clock (Flop source) = base source ≤ flop_need design net clock
