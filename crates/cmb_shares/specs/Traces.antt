-- What shares make of their nets, in a state of the machine of shares, and when that is right by itself.
use Rattle.std.specs.Prelude.{◌≡◌, ℕ, ◌<◌, Bool, true, List}
use Rattle.cmb_wave.specs.declared.level.Level.{Level}
use Rattle.cmb_netlist.specs.Netlist.{driver_of}
use Rattle.cmb_design_model.specs.Design.{Design}
use Rattle.cmb_engine.specs.Crossings.{AreWithinLookahead, IsCrossing}
use Rattle.cmb_engine.specs.Rows.{row}
use Rattle.cmb_engine.specs.Shares.{IsDriven, IsGiven}
use Rattle.cmb_engine.specs.Windows.{Windows, end_of}
use Rattle.cmb_shares_protocol.specs.Machine.{Processes}
use Rattle.cmb_shares_protocol.specs.Network.{Network, ahead}

-- a design, by share which nets it drives, by net the share that owns it, which nets cross, and where windows end
pub record Sharing : Type 0 where
  pub design : Design
  pub driven : ℕ → List Bool
  pub owner : ℕ → ℕ
  pub crossing : List Bool
  pub windows : Windows

-- A network in which each share is told what it is given: that is a crossing flip-flop, and a channel leads from its owner, which drives it. Windows lie in the lookahead of these.
pub record Serves (network : Network) (sharing : Sharing) : Type 0 where
  pub ends : (tick : ℕ) → network.next_end tick ≡ end_of sharing.windows tick
  pub horizon : network.horizon ≡ sharing.windows.horizon
  pub ahead : AreWithinLookahead sharing.design sharing.crossing sharing.windows
  pub crosses : (share net : ℕ) → share < network.shares → IsGiven sharing.design (sharing.driven share) net → IsCrossing sharing.design sharing.crossing net
  pub leads : (share net : ℕ) → share < network.shares → IsGiven sharing.design (sharing.driven share) net → network.leads (sharing.owner net) share ≡ true
  pub owned : (share net : ℕ) → share < network.shares → IsGiven sharing.design (sharing.driven share) net → IsDriven (sharing.driven (sharing.owner net)) net

-- a share's level of a net at a tick is what the net's driver gives, by the share's own levels
abbrev pub MeetsRow : Design → (ℕ → ℕ → Level) → ℕ → ℕ → Type 0
MeetsRow design level net tick = level net tick ≡ row design level net tick (driver_of design.netlist net)

-- By share, net and tick, levels that are right by themselves. What a share drives meets its rows where the share went. So do
-- crossing flip-flops a window on, where it may tell them. Of what it is given it has what the owner has, as far as it took that.
pub record AreMade (network : Network) (sharing : Sharing) (processes : Processes) (level : ℕ → ℕ → ℕ → Level) : Type 0 where
  pub made : (share net tick : ℕ) → share < network.shares → IsDriven (sharing.driven share) net → tick < (processes share).clock → MeetsRow sharing.design (level share) net tick
  pub told : (share net tick : ℕ) → share < network.shares → IsDriven (sharing.driven share) net → IsCrossing sharing.design sharing.crossing net → tick < ahead network (processes share).clock → MeetsRow sharing.design (level share) net tick
  pub taken : (share net tick : ℕ) → share < network.shares → IsGiven sharing.design (sharing.driven share) net → tick < (processes share).received (sharing.owner net) → level share net tick ≡ level (sharing.owner net) net tick
