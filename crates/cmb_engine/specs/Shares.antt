-- A share of a design's nets, simulated by an engine of its own: it drives them, and what they read of other nets is given to it.
use Rattle.std.specs.Prelude.{◌≡◌, ℕ, ◌/◌, ◌%◌, All, Bool, true, false, List, Contains, slice_index, slice_index_or}
use Rattle.cmb_wave.specs.declared.level.Level.{Level}
use Rattle.cmb_netlist.specs.Netlist.{driver_of, pins_of}
use Rattle.cmb_design_model.specs.Design.{Design}
use Rattle.cmb_words.specs.Bits.{is_set_at}
use Rattle.cmb_words.specs.declared.changed.Changed.{Changed}
use Rattle.cmb_words.specs.Changes.{IsStill, TellsNet, is_among, levels_up_to}

-- a design, which of its nets are driven, which of these are told ahead, the bits of the nets that are told where they change, the most
-- ticks of a window, and the tick below which the driven nets are known
pub record ShareEngine : Type 0 where
  pub design : Design
  pub driven : List Bool
  pub exports : List ℕ
  pub told : List ℕ
  pub width : ℕ
  pub clock : ℕ

abbrev pub IsDriven : List Bool → ℕ → Type 0
IsDriven driven net = slice_index_or driven net false ≡ true

-- a net is given: it isn't driven, and a net that is driven reads it
pub record IsGiven (design : Design) (driven : List Bool) (net : ℕ) : Type 0 where
  pub undriven : slice_index_or driven net false ≡ false
  pub reader : ℕ
  pub reader_driven : IsDriven driven reader
  pub read : Contains (pins_of (driver_of design.netlist reader)) net

-- the words tell all changes of some nets at the ticks of [from, upto); what they tell of other nets may be anything
pub record TellsThose (Those : ℕ → Type 0) (level : ℕ → ℕ → Level) (from upto : ℕ) (changed : List Changed) : Type 0 where
  pub words : (one : Changed) → Contains changed one → Those one.net → TellsNet level from upto one
  pub others : (net : ℕ) → Those net → is_among net changed ≡ false → IsStill (level net) from upto

-- the same, and what they tell of other nets is true
pub record TellsAll (Those : ℕ → Type 0) (level : ℕ → ℕ → Level) (from upto : ℕ) (changed : List Changed) : Type 0 where
  pub words : All (TellsNet level from upto) changed
  pub others : (net : ℕ) → Those net → is_among net changed ≡ false → IsStill (level net) from upto

-- whether a net is told where it changes: its bit is bit net % 64 of number net / 64
unfoldable pub is_told : List ℕ → ℕ → Bool
is_told told net = is_set_at (slice_index told (net / 64)) (net % 64)

-- an engine owes a net's changes: it drives the net, which is told
abbrev pub IsOwed : ShareEngine → ℕ → Type 0
IsOwed engine net = IsDriven engine.driven net × (is_told engine.told net ≡ true)

-- each word changes at some tick of [from, upto), at whose end it ends
abbrev pub EachChanges : ℕ → ℕ → List Changed → Type 0
EachChanges from upto changed = All (λ one. IsStill (levels_up_to upto one.word) from upto → ⊥) changed
