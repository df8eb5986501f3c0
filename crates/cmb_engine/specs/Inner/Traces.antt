-- What the slots of a design's engine show: first its nets, by their numbers, and then its lines. A line shows another net's
-- waveform some ticks later, as a pin with a delay sees it that is too long for words.
use Rattle.std.specs.Prelude.{◌≡◌, ℕ, ◌+◌, ◌-◌, ◌<◌, ◌≤◌, nat_lt, true, false, List, length, Option, None, Some, All, slice_get, if◌then◌else◌}
use Rattle.std.specs.List.{AllByRecursion}
use Rattle.cmb_wave.specs.declared.level.Level.{Level}
use Rattle.cmb_wave.specs.declared.level.Level.TheVariants.{X}
use Rattle.cmb_netlist.specs.Netlist.{driver_of}
use Rattle.cmb_netlist.specs.declared.netlist.Driver.TheVariants.{Input}
use Rattle.cmb_design_model.specs.Design.{Design}
use Rattle.cmb_design_model.specs.Exact.{nets_of}
use Rattle.cmb_design_model.specs.Value.{delayed}
use Rattle.cmb_engine.specs.Inner.Cells.{Cell, cell_at, is_made, pins_of, IsLawful}
use Rattle.cmb_engine.specs.Inner.Circuits.{MeetsCells}
use Rattle.cmb_engine.specs.Inner.Plans.{cell_as, CellStandsFor}
use Rattle.cmb_engine.specs.Inner.Roles.{drives, level_in, role_of}
use Rattle.cmb_engine.specs.declared.cell.Pin.{Pin}
use Rattle.cmb_engine.specs.declared.role.Role.{Role}

-- what a line shows
abbrev pub line_level : (ℕ → ℕ → Level) → Option Pin → ℕ → Level
line_level level None tick = X
line_level level (Some line) tick = delayed (level line.net) line.delay tick

-- what a slot shows
unfoldable pub trace_of : Design → List Role → List Pin → ℕ → ℕ → Level
trace_of design roles lines slot tick =
    if nat_lt slot (nets_of design) then level_in design roles slot tick else line_level (level_in design roles) (slice_get lines (slot - nets_of design)) tick

-- the cells of all slots, so that what the slots show is what the cells make of it: those of nets stand for what their drivers make, no pin is later than `most` ticks, and no
-- line sooner than a window is long
pub record IsPlan (design : Design) (roles : List Role) (lines : List Pin) (most width : ℕ) (cells : List Cell) : Type 0 where
  pub count : length cells ≡ nets_of design + length lines
  pub stand : (net : ℕ) → net < nets_of design → CellStandsFor (nets_of design) lines most (cell_as design net (role_of roles net)) (cell_at cells net)
  pub meets : MeetsCells (trace_of design roles lines) (cell_at cells)
  pub lawful : (slot : ℕ) → slot < length cells → IsLawful (length cells) most (cell_at cells slot)
  pub later : (slot : ℕ) → AllByRecursion (λ pin. is_made (cell_at cells pin.net) ≡ true → 1 ≤ pin.delay) (pins_of (cell_at cells slot))
  pub inputs : (net : ℕ) → net < nets_of design → drives roles net ≡ true → is_made (cell_at cells net) ≡ false → driver_of design.netlist net ≡ Input
  pub drivers : (net : ℕ) → net < nets_of design → driver_of design.netlist net ≡ Input → is_made (cell_at cells net) ≡ false
  pub others : (net : ℕ) → net < nets_of design → drives roles net ≡ false → is_made (cell_at cells net) ≡ false
  pub told : (slot : ℕ) → nets_of design ≤ slot → is_made (cell_at cells slot) ≡ false
  pub sources : All (λ line. (line.net < nets_of design) × (width ≤ line.delay) × (line.delay ≤ 1000000)) lines
  pub some : 1 ≤ most
  pub fits : width + most ≤ 63
  pub wide : 2 ≤ width
