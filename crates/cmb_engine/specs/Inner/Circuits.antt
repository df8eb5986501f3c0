-- Traces: the level of each slot at each tick, and when a circuit of cells allows them.
use Rattle.std.specs.Prelude.{◌≡◌, ℕ, ◌-◌, ◌<◌, ◌≤◌, ◌⊎◌, Bool, true, false, List, All, Contains, length, map, if◌then◌else◌}
use Rattle.std.specs.List.{AllByRecursion, AllZip}
use Rattle.cmb_wave.specs.declared.level.Level.{Level}
use Rattle.cmb_design_model.specs.declared.rows.Clock.{Clock}
use Rattle.cmb_design_model.specs.Gate.{gate}
use Rattle.cmb_design_model.specs.Value.{delayed}
use Rattle.cmb_engine.specs.Inner.Cells.{Cell, Nodes, Told, Gate, Flop, is_flop, is_gate, is_made, cell_at, pins_of, AreFanout, IsLawful, IsPace, IsSteady}
use Rattle.cmb_engine.specs.Inner.Orders.{Order, IsOrder}
use Rattle.cmb_engine.specs.Rows.{arrives_by}
use Rattle.cmb_engine.specs.Inner.Windows.{in_place}
use Rattle.cmb_engine.specs.declared.cell.Pin.{Pin}
use Rattle.cmb_engine.specs.declared.group.Group.{Group}
use Rattle.cmb_engine.specs.declared.group.Member.{Member}

-- what a pin sees at a tick: its slot so many ticks before, x before tick 0
abbrev pub seen_at : (ℕ → ℕ → Level) → ℕ → Pin → Level
seen_at trace tick pin = delayed (trace pin.net) pin.delay tick

-- what a cell makes at a tick; a flip-flop holds its level where no sample arrives, as at tick 0
abbrev pub cell_row : (ℕ → ℕ → Level) → ℕ → ℕ → Cell → Level
cell_row trace slot tick Told = trace slot tick
cell_row trace slot tick (Gate kind pins) = gate kind (map (seen_at trace tick) pins)
cell_row trace slot tick (Flop clock pin) =
    if arrives_by clock pin.delay tick then trace pin.net (tick - pin.delay) else trace slot (tick - 1)

-- each made slot has what its cell makes
abbrev pub MeetsCells : (ℕ → ℕ → Level) → (ℕ → Cell) → Type 0
MeetsCells trace cells =
    (slot tick : ℕ) → is_made (cells slot) ≡ true → trace slot tick ≡ cell_row trace slot tick (cells slot)

-- the words of so many slots hold a trace in all their places, where they end before a tick
abbrev pub Shows : (ℕ → ℕ → Level) → (ℕ → ℕ → Level) → ℕ → ℕ → Type 0
Shows words trace count to = (slot place : ℕ) → slot < count → place < 64 → words slot place ≡ in_place (trace slot) to place

-- slots that aren't live have one level in all places
abbrev pub AreQuiet : (ℕ → ℕ → Level) → (ℕ → Bool) → ℕ → Type 0
AreQuiet words live count = (slot place : ℕ) → slot < count → live slot ≡ false → place < 64 → words slot place ≡ words slot 63

-- a sample arrives at a tick
abbrev pub Arrives : Cell → ℕ → Type 0
Arrives Told tick = ⊥
Arrives (Gate kind pins) tick = ⊥
Arrives (Flop clock pin) tick = arrives_by clock pin.delay tick ≡ true

-- a cell is a flip-flop with this clock and delay
abbrev pub IsFlopOf : Cell → Clock → ℕ → Type 0
IsFlopOf Told clock delay = ⊥
IsFlopOf (Gate kind pins) clock delay = ⊥
IsFlopOf (Flop own pin) clock delay = (own ≡ clock) × (pin.delay ≡ delay)

-- a slot is marked, or in a window from a place on its samples bring the level that it has
abbrev pub IsMarkedOrRests : (ℕ → Bool) → (ℕ → ℕ → Level) → ℕ → List Cell → ℕ → Type 0
IsMarkedOrRests marked words first cells slot = (marked slot ≡ true) ⊎ ((to : ℕ) → IsSteady words to first slot (cell_at cells slot))

-- a flip-flop is in a group that has its clock and delay
pub record IsInGroup (clock : Clock) (delay slot : ℕ) (groups : List Group) : Type 0 where
  pub group : Group
  pub among : Contains groups group
  pub same_clock : group.clock ≡ clock
  pub same_delay : group.delay ≡ delay
  pub listed : Contains group.flops.items slot

-- the cell of a slot is a flip-flop with this clock and delay that reads a net
abbrev pub IsFlopAt : List Cell → Clock → ℕ → ℕ → ℕ → Type 0
IsFlopAt cells clock delay slot net = cell_at cells slot ≡ Flop clock (record { net = net; delay = delay })

-- a group has some slots, and the cells of all are flip-flops with its clock and delay that read the nets beside them
pub record IsGroup (cells : List Cell) (group : Group) : Type 0 where
  pub some : 1 ≤ length group.flops.items
  pub each : AllZip (IsFlopAt cells group.clock group.delay) group.flops.items group.sources.items

-- the flip-flops of a group and the nets beside them are some of so many, and its delay is so many ticks at most
pub record IsGroupWithin (count most : ℕ) (group : Group) : Type 0 where
  pub pace : IsPace group.clock
  pub delay : group.delay ≤ most
  pub pairs : length group.sources.items ≡ length group.flops.items
  pub slots : All (λ slot. slot < count) group.flops.items
  pub nets : All (λ net. net < count) group.sources.items

-- the flip-flops among cells, in groups
pub record AreFlops (cells : List Cell) (groups : List Group) : Type 0 where
  pub all : (slot : ℕ) (clock : Clock) (delay : ℕ) → IsFlopOf (cell_at cells slot) clock delay → IsInGroup clock delay slot groups
  pub each : All (IsGroup cells) groups

-- the flip-flops among cells, one by one
pub record AreMembers (cells : List Cell) (members : List Member) : Type 0 where
  pub all : (slot : ℕ) (clock : Clock) (pin : Pin) → cell_at cells slot ≡ Flop clock pin → Contains members (record { clock = clock; pin = pin; slot = slot })
  pub each : All (λ member. cell_at cells member.slot ≡ Flop member.clock member.pin) members

-- what stays as it is while an engine goes on: the cells, who reads each slot, and the flip-flops
pub record IsWiring (cells : List Cell) (order : Order) (nodes : Nodes) (gate_lists flop_lists : List (List ℕ)) (flops : List Group) (most : ℕ) : Type 0 where
  pub ranked : length order.ranks ≡ length cells
  pub ordered : IsOrder order
  pub slots_in_order : nodes.slots ≡ order.slots
  pub in_order : nodes.cells ≡ map (cell_at cells) order.slots
  pub gates : AreFanout is_gate cells order gate_lists
  pub samplers : AreFanout is_flop cells order flop_lists
  pub flip_flops : AreFlops cells flops
  pub lawful : (slot : ℕ) → slot < length cells → IsLawful (length cells) most (cell_at cells slot)
  pub later : (slot : ℕ) → AllByRecursion (λ pin. is_made (cell_at cells pin.net) ≡ true → 1 ≤ pin.delay) (pins_of (cell_at cells slot))
  pub some : 1 ≤ most
