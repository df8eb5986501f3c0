-- What an engine does with each net: it drives it, is given it by others, or has nothing to do with it.
use Rattle.std.specs.Prelude.{◌≡◌, ℕ, ◌<◌, ◌≤◌, ◌⊎◌, Bool, true, false, List, Contains, length, map, slice_index_or, if◌then◌else◌}
use Rattle.cmb_wave.specs.declared.level.Level.{Level}
use Rattle.cmb_wave.specs.declared.level.Level.TheVariants.{Zero}
use Rattle.cmb_netlist.specs.Netlist.{driver_of, pins_of, IsNetlist}
use Rattle.cmb_design_model.specs.Design.{Design}
use Rattle.cmb_design_model.specs.Exact.{nets_of}
use Rattle.cmb_design_model.specs.Value.{value}
use Rattle.cmb_engine.specs.Inner.Cells.{Cell, cell_at, is_made}
use Rattle.cmb_engine.specs.Shares.{IsGiven}
use Rattle.cmb_engine.specs.declared.role.Role.{Role}
use Rattle.cmb_engine.specs.declared.role.Role.TheVariants.{Driven, Given, Absent}

abbrev pub is_driven : Role → Bool
is_driven Driven = true
is_driven Given = false
is_driven Absent = false

abbrev pub is_given : Role → Bool
is_given Driven = false
is_given Given = true
is_given Absent = false

abbrev pub is_absent : Role → Bool
is_absent Driven = false
is_absent Given = false
is_absent Absent = true

-- the role of a net: where no roles are said, all nets are driven
abbrev pub role_of : List Role → ℕ → Role
role_of roles net = slice_index_or roles net Driven

abbrev pub drives : List Role → ℕ → Bool
drives roles net = is_driven (role_of roles net)

abbrev pub gives : List Role → ℕ → Bool
gives roles net = is_given (role_of roles net)

abbrev pub lacks : List Role → ℕ → Bool
lacks roles net = is_absent (role_of roles net)

-- the level that an engine has of a net: of an absent one 0, for ever: so it never counts as x
abbrev pub level_in : Design → List Role → ℕ → ℕ → Level
level_in design roles net tick = if lacks roles net then Zero else value design net tick

-- what a driven net reads isn't absent
pub record AreRoles (design : Design) (roles : List Role) : Type 0 where
  pub few : length roles ≤ nets_of design
  pub known : (net operand : ℕ) → net < nets_of design → drives roles net ≡ true → Contains (pins_of (driver_of design.netlist net)) operand
      → lacks roles operand ≡ false

-- which nets are driven
abbrev pub driven_of : List Role → List Bool
driven_of roles = map is_driven roles

-- some nets are given as well, but those that are driven
pub record Gives (old new : List Role) (nets : List ℕ) : Type 0 where
  pub same : driven_of new ≡ driven_of old
  pub given : (net : ℕ) → Contains nets net → lacks new net ≡ false
  pub kept : (net : ℕ) → lacks old net ≡ false → lacks new net ≡ false
  pub only : (net : ℕ) → gives new net ≡ true → (gives old net ≡ true) ⊎ Contains nets net

-- the roles of a design's nets where an engine drives some of them: it is given just what they read
pub record AreOf (design : Design) (driven : List Bool) (roles : List Role) : Type 0 where
  pub netlist : IsNetlist design.netlist
  pub count : length roles ≡ nets_of design
  pub same : driven_of roles ≡ driven
  pub lawful : AreRoles design roles
  pub gifts : (net : ℕ) → gives roles net ≡ true → IsGiven design driven net

-- given nets are slots whose words no cell makes
abbrev pub AreToldNets : List Cell → List Role → Type 0
AreToldNets cells roles = (slot : ℕ) → gives roles slot ≡ true → (slot < length cells) × (is_made (cell_at cells slot) ≡ false)
