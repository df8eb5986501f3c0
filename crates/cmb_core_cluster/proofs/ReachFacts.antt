-- How far a process reaches: never beyond the horizon, and a tick beyond what it reads at least.
use Rattle.std.proofs.Common.{ℕ, suc, ◌≤◌, List, [], ◌∷◌, arith}
use Rattle.std.specs.List.{AllByRecursion}
use Rattle.cmb_netlist.specs.declared.netlist.Driver.{Driver}
use Rattle.cmb_netlist.specs.declared.netlist.Driver.TheVariants.{Input, Gate, Flop}
use Rattle.cmb_netlist.specs.Netlist.{pins_of}
use Rattle.cmb_design_model.specs.Design.{Design}
use Rattle.cmb_design_model.specs.Timing.{clock_of}
use Rattle.cmb_design_model.proofs.AskFacts.{clock_of-positive}
use Rattle.cmb_design_model.proofs.SampleFacts.{delay-positive, next_sample-at_least}
use Rattle.cmb_core_cluster.specs.Reach.{pins_reach, driver_reach}

pins_reach-within : (design : Design) (clock : ℕ → ℕ) (net most pin : ℕ) (operands : List ℕ) → pins_reach design clock net most pin operands ≤ most
pins_reach-within design clock net most pin [] = omega arith
pins_reach-within design clock net most pin (operand ∷ operands) = omega (arith, pins_reach-within design clock net most (suc pin) operands)

pub driver_reach-within : (design : Design) (clock : ℕ → ℕ) (net : ℕ) (driver : Driver) → driver_reach design clock net driver ≤ design.horizon
driver_reach-within design clock net Input = omega arith
driver_reach-within design clock net (Gate kind operands) = pins_reach-within design clock net design.horizon 1 operands
driver_reach-within design clock net (Flop source) = omega arith

pins_reach-at_least : (design : Design) (clock : ℕ → ℕ) (net most pin tick : ℕ) (operands : List ℕ) → AllByRecursion (λ m. tick ≤ clock m) operands → suc tick ≤ most → suc tick ≤ pins_reach design clock net most pin operands
pins_reach-at_least design clock net most pin tick [] all within = within
pins_reach-at_least design clock net most pin tick (operand ∷ operands) all within =
    omega (arith, all.0, delay-positive design net pin, pins_reach-at_least design clock net most (suc pin) tick operands all.1 within)

-- where all that is read is known up to a tick, a process reaches a tick more
pub driver_reach-at_least : (design : Design) (clock : ℕ → ℕ) (net tick : ℕ) (driver : Driver) → AllByRecursion (λ m. tick ≤ clock m) (pins_of driver) → suc tick ≤ design.horizon → suc tick ≤ driver_reach design clock net driver
driver_reach-at_least design clock net tick Input all within = within
driver_reach-at_least design clock net tick (Gate kind operands) all within = pins_reach-at_least design clock net design.horizon 1 tick operands all within
driver_reach-at_least design clock net tick (Flop source) all within =
    omega (arith, all.0, delay-positive design net 1, next_sample-at_least (clock_of design net) (clock_of-positive design net) (clock source))
