-- What the calendar of a design's engine has.
use Rattle.std.specs.Prelude.{◌≡◌, ◌<◌, ◌≤◌, ℕ, List, Contains, length}
use Rattle.cmb_wheel.specs.Calendars.{Calendar}
use Rattle.cmb_wheel.specs.declared.event.LevelEvent.{LevelEvent}
use Rattle.cmb_design_model.specs.Design.{Design}
use Rattle.cmb_design_model.specs.Exact.{nets_of}
use Rattle.cmb_engine.specs.Inner.Cells.{Cell, cell_at}
use Rattle.cmb_engine.specs.Inner.Roles.{gives}
use Rattle.cmb_engine.specs.Inner.Tells.{AreTold, reach_of}
use Rattle.cmb_engine.specs.Inner.Traces.{trace_of}
use Rattle.cmb_engine.specs.declared.cell.Pin.{Pin}
use Rattle.cmb_engine.specs.declared.role.Role.{Role}

-- it has what is told of the ticks from the clock on and below the horizon
pub record TellsAhead (design : Design) (roles : List Role) (lines : List Pin) (cells : List Cell) (clock : ℕ) (calendar : Calendar) : Type 0 where
  pub same_horizon : calendar.horizon ≡ design.horizon
  pub before : calendar.clock ≤ clock
  pub below : (event : LevelEvent) → Contains calendar.tells event → event.tick < design.horizon
  pub told : AreTold (trace_of design roles lines) (cell_at cells) (gives roles) (length cells) (reach_of (nets_of design) lines design.horizon) design.horizon clock calendar.tells
