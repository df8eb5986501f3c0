-- Sets of nets whose levels depend on no other net.
use Rattle.std.specs.Prelude.{ℕ, ◌<◌, List, length, All, Contains}
use Rattle.std.specs.List.Sorted.{IsStrictlyIncreasing}
use Rattle.cmb_netlist.specs.Netlist.{Netlist, driver_of, pins_of}

-- the nets whose levels the value rule of a net asks for: a gate's operands, a flip-flop's data
abbrev pub asked_by : Netlist → ℕ → List ℕ
asked_by netlist net = pins_of (driver_of netlist net)

-- nets of a netlist, by rising number, and with each of them all nets that its value rule asks for
pub record IsClosed (netlist : Netlist) (nets : List ℕ) : Type 0 where
  pub rising : IsStrictlyIncreasing nets
  pub within : All (λ net. net < length netlist.names) nets
  pub closed : All (λ net. All (Contains nets) (asked_by netlist net)) nets

-- the least closed set that has the wanted nets
pub record IsClosure (netlist : Netlist) (wanted nets : List ℕ) : Type 0 where
  pub closed : IsClosed netlist nets
  pub has : All (Contains nets) wanted
  pub needed : (others : List ℕ) → IsClosed netlist others → All (Contains others) wanted → All (Contains others) nets
