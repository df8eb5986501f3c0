-- What drives a net is wired, and its pins are nets.
use Rattle.std.proofs.Common.{◌≡◌, ◌<◌, ◌≤◌, ◌⊎◌, inl, inr, ℕ, [], length}
use Rattle.std.specs.Prelude.{All}
use Rattle.std.proofs.lemmas.Bool.{cases_lt}
use Rattle.std.proofs.lemmas.List.{get_or_past}
use Rattle.std.proofs.lemmas.List.Elements.{All-cons, All-nil}
use Rattle.cmb_netlist.specs.declared.netlist.Driver.{Driver}
use Rattle.cmb_netlist.specs.declared.netlist.Driver.TheVariants.{Input, Gate, Flop}
use Rattle.cmb_netlist.specs.Netlist.{Netlist, IsNetlist, IsWired, driver_of, pins_of}

-- also that of a number that is no net's
pub driver-wired : (netlist : Netlist) → IsNetlist netlist → (net : ℕ) → IsWired (length netlist.names) (driver_of netlist net)
driver-wired netlist lawful net = go (cases_lt net (length netlist.drivers))
  where
    go : (net < length netlist.drivers) ⊎ (length netlist.drivers ≤ net) → IsWired (length netlist.names) (driver_of netlist net)
    go (inl here) = lawful.wired net Input here
    go (inr beyond) = let e : driver_of netlist net ≡ Input = get_or_past netlist.drivers net Input beyond in rw e tt

-- the pins of a wired driver are nets
pins-wired : (nets : ℕ) (driver : Driver) → IsWired nets driver → All (λ pin. pin < nets) (pins_of driver)
pins-wired nets Input wired = All-nil (λ pin. pin < nets)
pins-wired nets (Gate kind operands) wired = wired.1
pins-wired nets (Flop source) wired = All-cons (λ pin. pin < nets) source [] wired (All-nil (λ pin. pin < nets))

pub pins-below : (netlist : Netlist) → IsNetlist netlist → (net : ℕ) → All (λ pin. pin < length netlist.names) (pins_of (driver_of netlist net))
pins-below netlist lawful net = pins-wired (length netlist.names) (driver_of netlist net) (driver-wired netlist lawful net)
