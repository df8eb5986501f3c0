-- The part of a design on which chosen nets depend.
use Rattle.std.specs.Prelude.{◌≡◌, ℕ, ◌<◌, List, All, Contains, length, map, slice_index}
use Rattle.cmb_design_model.specs.Design.{Design}
use Rattle.cmb_netlist.specs.Netlist.{Netlist}
use Rattle.cmb_cone.specs.Closed.{IsClosed, IsClosure}
use Rattle.cmb_cone.specs.Restriction.{IsRestriction}

-- a design of the least closed set of nets that has the chosen ones, and the chosen nets' places among these
pub record IsPartOf (design : Design) (chosen : List ℕ) (part : Design) (places : List ℕ) : Type 0 where
  pub nets : List ℕ
  pub least : IsClosure design.netlist chosen nets
  pub restricted : IsRestriction design nets part
  pub same : map (slice_index nets) places ≡ chosen

-- chosen nets need all nets: each closed set that has the chosen ones has them all
abbrev pub IsPruned : Netlist → List ℕ → Type 0
IsPruned netlist chosen = (others : List ℕ) → IsClosed netlist others → All (Contains others) chosen → (net : ℕ) → net < length netlist.names → Contains others net

-- a design and the nets of it that were chosen
pub record Part : Type 0 where
  pub design : Design
  pub nets : List ℕ
