-- A design of some nets of another one, numbered in their order.
use Rattle.std.specs.Prelude.{◌≡◌, ℕ, ◌<◌, Bool, List, map, length, slice_index, nat_eq}
use Rattle.std.specs.List.{filter, list_any}
use Rattle.cmb_netlist.specs.declared.netlist.Driver.{Driver}
use Rattle.cmb_netlist.specs.declared.netlist.Driver.TheVariants.{Input, Gate, Flop}
use Rattle.cmb_netlist.specs.Netlist.{Netlist, driver_of, name_of}
use Rattle.cmb_design_model.specs.Design.{Design}
use Rattle.cmb_design_model.specs.Timing.{clock_of, delay, initial_level, stimulus}

-- a driver with other nets on its pins
abbrev pub with_nets : (ℕ → ℕ) → Driver → Driver
with_nets f Input = Input
with_nets f (Gate kind operands) = Gate kind (map f operands)
with_nets f (Flop source) = Flop (f source)

abbrev pub is_among : List ℕ → ℕ → Bool
is_among nets net = list_any (nat_eq net) nets

-- net i of the part is net `nets[i]` of the whole: it has its name, and its driver, read by these numbers. The part's outputs are those
-- outputs of the whole that are among the nets
pub record IsPart (whole : Netlist) (nets : List ℕ) (part : Netlist) : Type 0 where
  pub names : part.names ≡ map (name_of whole) nets
  pub drivers : map (with_nets (slice_index nets)) part.drivers ≡ map (driver_of whole) nets
  pub outputs : map (slice_index nets) part.outputs ≡ filter (is_among nets) whole.outputs

-- and it has the delays, the stimulus, the clock and the first level of that net, under the same settings
pub record IsRestriction (design : Design) (nets : List ℕ) (part : Design) : Type 0 where
  pub netlist : IsPart design.netlist nets part.netlist
  pub horizon : part.horizon ≡ design.horizon
  pub delays : (i pin : ℕ) → i < length nets → delay part i pin ≡ delay design (slice_index nets i) pin
  pub stimuli : (i tick : ℕ) → i < length nets → stimulus part i tick ≡ stimulus design (slice_index nets i) tick
  pub clocks : (i : ℕ) → i < length nets → clock_of part i ≡ clock_of design (slice_index nets i)
  pub initial : (i : ℕ) → i < length nets → initial_level part i ≡ initial_level design (slice_index nets i)
