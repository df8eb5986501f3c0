-- What is told of told slots when an engine begins.
use Rattle.std.specs.Prelude.{◌≡◌, ◌≢◌, ℕ, ◌+◌, ◌-◌, ◌<◌, ◌≤◌, true, List, Some, slice_get}
use Rattle.cmb_wave.specs.declared.level.Level.{Level}
use Rattle.cmb_wave.specs.declared.level.Level.TheVariants.{X}
use Rattle.cmb_netlist.specs.Netlist.{driver_of}
use Rattle.cmb_netlist.specs.declared.netlist.Driver.TheVariants.{Input}
use Rattle.cmb_wheel.specs.declared.event.LevelEvent.{LevelEvent}
use Rattle.cmb_design_model.specs.Design.{Design}
use Rattle.cmb_design_model.specs.Exact.{nets_of}
use Rattle.cmb_design_model.specs.Timing.{stimulus}
use Rattle.cmb_engine.specs.Inner.Roles.{drives}
use Rattle.cmb_engine.specs.declared.cell.Pin.{Pin}
use Rattle.cmb_engine.specs.declared.role.Role.{Role}

-- a tell is of a change of a net's stimulus, after tick 0 and below the design's horizon
pub record IsOfStimulus (design : Design) (net : ℕ) (event : LevelEvent) : Type 0 where
  pub slot : event.slot ≡ net
  pub later : 1 ≤ event.tick
  pub within : event.tick < design.horizon
  pub differs : stimulus design net (event.tick - 1) ≢ stimulus design net event.tick
  pub level : event.level ≡ stimulus design net event.tick

-- a tell is of a change of a driven input
pub record IsOfInput (design : Design) (roles : List Role) (event : LevelEvent) : Type 0 where
  pub net : event.slot < nets_of design
  pub input : driver_of design.netlist event.slot ≡ Input
  pub driven : drives roles event.slot ≡ true
  pub change : IsOfStimulus design event.slot event

-- a tell is of the first change of a line: to the level that its net has at tick 0, where that isn't x
pub record IsOfStart (words : ℕ → ℕ → Level) (lines : List Pin) (nets : ℕ) (event : LevelEvent) : Type 0 where
  pub number : ℕ
  pub line : Pin
  pub has_number : slice_get lines number ≡ Some line
  pub known : words line.net 63 ≢ X
  pub is : event ≡ record { tick = line.delay; slot = nets + number; level = words line.net 63 }
