-- What holds of a link at every moment, and what each step does to an end of it.
use Rattle.std.specs.Prelude.{◌≡◌, ℕ, ◌<◌, ◌≤◌, List, [], ◌∷◌, ◌++◌, ◌⊎◌, length, All, None}
use Rattle.std.specs.List.{Contains}
use Rattle.cmb_wave.specs.Wave.{Piece}
use Rattle.cmb_wave.specs.declared.level.Level.TheVariants.{X}
use Rattle.cmb_design_model.specs.Design.{Design}
use Rattle.cmb_design_model.specs.Exact.{IsExactIn}
use Rattle.cmb_links.specs.Links.{channel_clock}
use Rattle.cmb_links.specs.declared.end.Cargo.{Cargo}
use Rattle.cmb_links.specs.declared.end.End.{End}
use Rattle.cmb_links.specs.declared.end.EndRole.TheVariants.{Fresh, Puts, Takes, Closes, Spent}

-- a design without nets
abbrev pub no_design : Design
no_design = record {
  netlist = record { names = []; drivers = []; outputs = [] };
  horizon = 0;
  init = X;
  clock = None;
  delays = [];
  stimuli = [];
  clocks = [];
  initial = [];
}

abbrev pub no_cargo : Cargo
no_cargo = record { design = no_design; nets = [] }

-- the one pass of a queue that has no ends yet
abbrev pub fresh : End
fresh = record { role = Fresh; cargo = no_cargo; capacity = 0; sent = []; received = [] }

abbrev pub putting : Cargo → ℕ → List Piece → End
putting cargo capacity sent = record { role = Puts; cargo = cargo; capacity = capacity; sent = sent; received = [] }

abbrev pub taking : Cargo → ℕ → List Piece → End
taking cargo capacity received = record { role = Takes; cargo = cargo; capacity = capacity; sent = []; received = received }

-- the end that closes a link knows what both ends knew
abbrev pub closing : Cargo → ℕ → List Piece → List Piece → End
closing cargo capacity sent received = record { role = Closes; cargo = cargo; capacity = capacity; sent = sent; received = received }

-- the end that was joined to it
abbrev pub spent : End
spent = record { role = Spent; cargo = no_cargo; capacity = 0; sent = []; received = [] }

-- a piece that a link may carry: it is exact in the link's design, and of one of its nets
pub record IsCarried (cargo : Cargo) (piece : Piece) : Type 0 where
  pub exact : IsExactIn cargo.design piece
  pub net : Contains cargo.nets piece.net

-- behind those before, no piece begins after the clock of its net's channel
abbrev pub HaveNoGap : List Piece → List Piece → Type 0
HaveNoGap before [] = Unit {0}
HaveNoGap before (piece ∷ pieces) = (piece.from ≤ channel_clock piece.net before) × HaveNoGap (before ++ piece ∷ []) pieces

-- what was sent is what was received and what is held, which is no longer than the capacity; the link may carry every piece of it,
-- and of no net is there a gap
pub record IsBetween (held : List Piece) (cargo : Cargo) (capacity : ℕ) (sent received : List Piece) : Type 0 where
  pub order : sent ≡ received ++ held
  pub room : length held ≤ capacity
  pub carried : All (IsCarried cargo) sent
  pub joined : HaveNoGap [] sent

-- the two ends of a link, which name one cargo and one capacity; once they are joined, one of them knows all
abbrev pub open_ends : Cargo → ℕ → List Piece → List Piece → List End
open_ends cargo capacity sent received = putting cargo capacity sent ∷ taking cargo capacity received ∷ []

abbrev pub joined_ends : Cargo → ℕ → List Piece → List Piece → List End
joined_ends cargo capacity sent received = closing cargo capacity sent received ∷ spent ∷ []

abbrev pub IsLinked : List Piece → List End → Type 0
IsLinked held ends =
    ((held ≡ []) × (ends ≡ fresh ∷ []))
    ⊎ ((cargo : Cargo) × (capacity : ℕ) × (sent : List Piece) × (received : List Piece) × IsBetween held cargo capacity sent received
    × ((ends ≡ open_ends cargo capacity sent received) ⊎ (ends ≡ joined_ends cargo capacity sent received)))

abbrev pub Sends : End → Piece → End → Type 0
Sends v piece w = w ≡ putting v.cargo v.capacity (v.sent ++ piece ∷ [])

abbrev pub Receives : End → Piece → End → Type 0
Receives v piece w = (w ≡ taking v.cargo v.capacity (v.received ++ piece ∷ [])) × IsCarried v.cargo piece × (piece.from ≤ channel_clock piece.net v.received)

-- the end that closes the link takes a piece, which is one of those that were sent and not yet received
abbrev pub Empties : End → Piece → End → Type 0
Empties v piece w = (w ≡ closing v.cargo v.capacity v.sent (v.received ++ piece ∷ [])) × IsCarried v.cargo piece × (length v.received < length v.sent)

-- what the end that closes the link knows of what it holds
abbrev pub Leaves : End → List Piece → Type 0
Leaves v held = (v.sent ≡ v.received ++ held) × (length held ≤ v.capacity)
