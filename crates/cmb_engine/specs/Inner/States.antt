-- What an engine keeps, and what it is at a clock.
use Rattle.std.specs.Prelude.{◌≡◌, ℕ, ◌*◌, ◌^◌, ◌<◌, ◌≤◌, true, All, length}
use Rattle.cmb_design_model.specs.Design.{Design}
use Rattle.cmb_design_model.specs.Exact.{nets_of}
use Rattle.cmb_engine.specs.Inner.Ahead.{TellsAhead}
use Rattle.cmb_engine.specs.Inner.Bits.{has}
use Rattle.cmb_engine.specs.Inner.Circuits.{AreQuiet, IsWiring, Shows}
use Rattle.cmb_engine.specs.Inner.Lines.{AreFollowers}
use Rattle.cmb_engine.specs.Inner.Roles.{AreRoles}
use Rattle.cmb_engine.specs.Shares.{ShareEngine, IsDriven, IsGiven, is_told}
use Rattle.cmb_engine.specs.Inner.Traces.{IsPlan, trace_of}
use Rattle.cmb_engine.specs.Inner.Words.{levels_of}
use Rattle.cmb_engine.specs.Windows.{Windows}
use Rattle.cmb_engine.specs.declared.circuit.Circuit.{Circuit}
use Rattle.cmb_engine.specs.declared.state.State.{State}

-- a circuit is that of a design: what it does with each net, its plan, who reads each slot, and which lines follow each net; nets that
-- lines follow are wanted
pub record IsCircuit (design : Design) (circuit : Circuit) : Type 0 where
  pub roles : AreRoles design circuit.wiring.roles.items
  pub plan : IsPlan design circuit.wiring.roles.items circuit.lines.items circuit.wiring.most circuit.width circuit.wiring.cells
  pub wires : IsWiring circuit.wiring.cells circuit.wiring.fanout.order circuit.wiring.fanout.nodes circuit.wiring.fanout.gates circuit.wiring.fanout.flops circuit.wiring.flops.items circuit.wiring.most
  pub few : length circuit.wiring.cells < 2 ^ 32
  pub follow : AreFollowers circuit.lines.items (nets_of design) circuit.followers
  pub wanted : All (λ line. has circuit.wanted line.net ≡ true) circuit.lines.items

-- the state of a design's engine: its words show what the slots show up to its clock, and its calendar what is told from there on
pub record IsState (design : Design) (circuit : Circuit) (state : State) : Type 0 where
  pub slots : length state.words ≡ length circuit.wiring.cells
  pub live_room : length circuit.wiring.cells ≤ 64 * length state.live
  pub marks_room : length circuit.wiring.fanout.order.slots ≤ 64 * length state.marks
  pub shows : Shows (levels_of state.words) (trace_of design circuit.wiring.roles.items circuit.lines.items) (length circuit.wiring.cells) state.clock
  pub quiet : AreQuiet (levels_of state.words) (has state.live) (length circuit.wiring.cells)
  pub ahead : TellsAhead design circuit.wiring.roles.items circuit.lines.items circuit.wiring.cells state.clock state.calendar
  pub begun : 1 ≤ state.clock
  pub within : state.clock ≤ design.horizon

-- the engine of a share that is all nets, to which nothing is given, and which tells all
pub record DrivesAll (share : ShareEngine) : Type 0 where
  pub all : (net : ℕ) → net < nets_of share.design → IsDriven share.driven net
  pub alone : (net : ℕ) → IsGiven share.design share.driven net → ⊥
  pub told : (net : ℕ) → net < nets_of share.design → is_told share.told net ≡ true

-- that engine, and where windows end that it can make
pub record IsWhole (share : ShareEngine) (windows : Windows) : Type 0 where
  pub drives : DrivesAll share
  pub width : windows.width ≡ share.width
  pub horizon : windows.horizon ≡ share.design.horizon
