-- How the word of a net comes about, said in places of words: 64 levels a net, of which place i stands for tick to + i - 64.
use Rattle.std.specs.Prelude.{◌≡◌, ℕ, ◌+◌, ◌-◌, ◌<◌, ◌≤◌, ◌⊎◌, Bool, true, false, IsTrue, List, [], ◌∷◌, ◌++◌, ◌==◌, slice_index, slice_index_or, All, map, length, if◌then◌else◌}
use Rattle.std.specs.List.{AllByRecursion, list_any}
use Rattle.cmb_wave.specs.declared.level.Level.{Level}
use Rattle.cmb_netlist.specs.declared.netlist.Kind.{Kind}
use Rattle.cmb_design_model.specs.declared.rows.Clock.{Clock}
use Rattle.cmb_design_model.specs.Gate.{gate}
use Rattle.cmb_engine.specs.Rows.{arrives_by}
use Rattle.cmb_engine.specs.Inner.Orders.{Order, IsOrder, rank_in}
use Rattle.cmb_engine.specs.declared.cell.Pin.{Pin}

-- a word is told from outside, or made by a gate or a flip-flop of other words
pub data Cell : Type 0 where
  Told : Cell
  Gate : Kind → List Pin → Cell
  Flop : Clock → Pin → Cell

abbrev pub is_gate : Cell → Bool
is_gate Told = false
is_gate (Gate kind pins) = true
is_gate (Flop clock pin) = false

abbrev pub is_flop : Cell → Bool
is_flop Told = false
is_flop (Gate kind pins) = false
is_flop (Flop clock pin) = true

abbrev pub is_made : Cell → Bool
is_made Told = false
is_made (Gate kind pins) = true
is_made (Flop clock pin) = true

-- the level that a pin sees in a place
abbrev pub seen : (ℕ → ℕ → Level) → ℕ → Pin → Level
seen words place pin = words pin.net (place - pin.delay)

-- the level of a net in a place by its cell; a flip-flop's is its own in the place before, where no sample arrives
abbrev pub cell_level : (ℕ → ℕ → Level) → (ℕ → Level) → ℕ → Cell → ℕ → Level
cell_level words own to Told place = own place
cell_level words own to (Gate kind pins) place = gate kind (map (seen words place) pins)
cell_level words own to (Flop clock pin) place =
    if arrives_by clock pin.delay (to + place - 64) then seen words place pin else own (place - 1)

-- a fact of each pin that the level in a place depends on
abbrev pub EachSeen : (Pin → Type 0) → ℕ → Cell → ℕ → Type 0
EachSeen P to Told place = Unit {0}
EachSeen P to (Gate kind pins) place = AllByRecursion P pins
EachSeen P to (Flop clock pin) place = IsTrue (arrives_by clock pin.delay (to + place - 64)) → P pin

-- a word is what a cell makes of others, from a place on
abbrev pub IsMade : (ℕ → ℕ → Level) → (ℕ → Level) → ℕ → ℕ → Cell → Type 0
IsMade words own to first cell = (place : ℕ) → first ≤ place → place < 64 → own place ≡ cell_level words own to cell place

-- a net's word is what its cell makes, from a place on
abbrev pub IsSettled : (ℕ → ℕ → Level) → ℕ → ℕ → ℕ → Cell → Type 0
IsSettled words to first net cell = IsMade words (words net) to first cell

-- a pin of a made word sees an earlier place, and one of a told word sees what is so
abbrev pub IsReadable : (ℕ → ℕ → Level) → (ℕ → ℕ → Level) → (ℕ → Cell) → ℕ → Pin → Type 0
IsReadable words truth cells place pin =
    (IsTrue (is_made (cells pin.net)) → 1 ≤ pin.delay) × (is_made (cells pin.net) ≡ false → seen words place pin ≡ seen truth place pin)

-- the true words are settled, and what is told of them is told wherever a cell looks
pub record IsReady (words truth : ℕ → ℕ → Level) (cells : ℕ → Cell) (to first : ℕ) : Type 0 where
  pub later : 1 ≤ first
  pub true_settled : (net : ℕ) → IsTrue (is_made (cells net)) → IsSettled truth to first net (cells net)
  pub readable : (net place : ℕ) → IsTrue (is_made (cells net)) → first ≤ place → place < 64 → EachSeen (IsReadable words truth cells place) to (cells net) place

-- each made net that isn't marked is settled
abbrev pub AreSettled : (ℕ → ℕ → Level) → (ℕ → Bool) → (ℕ → Cell) → ℕ → ℕ → Type 0
AreSettled words marked cells to first =
    (net : ℕ) → is_made (cells net) ≡ true → marked net ≡ false → IsSettled words to first net (cells net)

-- the cell of a number: what is told where there is no such net
abbrev pub cell_at : List Cell → ℕ → Cell
cell_at cells net = slice_index_or cells net Told

-- the told words stay
abbrev pub KeepsTold : (ℕ → ℕ → Level) → (ℕ → ℕ → Level) → (ℕ → Cell) → Type 0
KeepsTold old new cells = (net place : ℕ) → is_made (cells net) ≡ false → new net place ≡ old net place

-- the made words are true below a place
abbrev pub IsTrueBelow : (ℕ → ℕ → Level) → (ℕ → ℕ → Level) → (ℕ → Cell) → ℕ → Type 0
IsTrueBelow words truth cells upto = (net place : ℕ) → IsTrue (is_made (cells net)) → place < upto → words net place ≡ truth net place

-- the sample ticks of a flip-flop, its clock's or those some ticks later
abbrev pub IsPace : Clock → Type 0
IsPace clock = (clock.first ≤ 2000000) × (1 ≤ clock.period) × (clock.period ≤ 1000000)

-- a cell reads some of so many nets, and none of its pins is later than so many ticks
abbrev pub IsLawful : ℕ → ℕ → Cell → Type 0
IsLawful nets most Told = Unit {0}
IsLawful nets most (Gate kind pins) = (1 ≤ length pins) × All (λ pin. pin.net < nets) pins × All (λ pin. pin.delay ≤ most) pins
IsLawful nets most (Flop clock pin) = IsPace clock × (pin.net < nets) × (pin.delay ≤ most)

-- what a cell sees in a window is what it saw in the place before, and then what it makes is the net's level there;
-- where a sample arrives it brings the level that the net has
abbrev pub IsSteady : (ℕ → ℕ → Level) → ℕ → ℕ → ℕ → Cell → Type 0
IsSteady words to first net Told = Unit {0}
IsSteady words to first net (Gate kind pins) =
    (words net (first - 1) ≡ gate kind (map (seen words (first - 1)) pins))
    × ((place : ℕ) → first ≤ place → place < 64 → AllByRecursion (λ pin. seen words place pin ≡ seen words (first - 1) pin) pins)
IsSteady words to first net (Flop clock pin) =
    (place : ℕ) → first ≤ place → place < 64 → IsTrue (arrives_by clock pin.delay (to + place - 64)) → seen words place pin ≡ words net (first - 1)

-- the pins of a cell
abbrev pub pins_of : Cell → List Pin
pins_of Told = []
pins_of (Gate kind pins) = pins
pins_of (Flop clock pin) = pin ∷ []

-- whether a cell reads a net
abbrev pub reads : Cell → ℕ → Bool
reads cell net = list_any (λ pin. pin.net == net) (pins_of cell)

-- each slot with such a cell that reads this one is among the readers, by its rank
abbrev pub AreReaders : (Cell → Bool) → List Cell → (ℕ → ℕ) → ℕ → List ℕ → Type 0
AreReaders is_such cells rank slot readers =
    (m : ℕ) → is_such (cell_at cells m) ≡ true → reads (cell_at cells m) slot ≡ true
    → (k : ℕ) × (k < length readers) × (slice_index readers k ≡ rank m)

-- a number stands in one of the lists
abbrev pub IsListed : List (List ℕ) → ℕ → ℕ → Type 0
IsListed lists place number =
    (k : ℕ) × (k < length (slice_index_or lists place [])) × (slice_index (slice_index_or lists place []) k ≡ number)

-- all numbers in the lists are below a bound
abbrev pub AreBelow : ℕ → List (List ℕ) → Type 0
AreBelow bound lists = (place : ℕ) → All (λ number. number < bound) (slice_index_or lists place [])

-- for each slot a list of all such cells that read it
pub record AreLists (is_such : Cell → Bool) (cells : List Cell) (lists : List (List ℕ)) : Type 0 where
  pub count : length lists ≡ length cells
  pub listed : (m place : ℕ) → is_such (cell_at cells m) ≡ true → reads (cell_at cells m) place ≡ true → IsListed lists place m
  pub within : AreBelow (length cells) lists

-- for each rank a list with the ranks of all such cells that read its slot
pub record AreFanout (is_such : Cell → Bool) (cells : List Cell) (order : Order) (lists : List (List ℕ)) : Type 0 where
  pub count : length lists ≡ length order.slots
  pub readers_of : (rank : ℕ) → rank < length order.slots
      → AreReaders is_such cells (rank_in order) (slice_index order.slots rank) (slice_index_or lists rank [])
  pub within : AreBelow (length order.slots) lists

-- the list of a slot's rank
abbrev pub readers_at : Order → List (List ℕ) → ℕ → List ℕ
readers_at order lists slot = slice_index_or lists (rank_in order slot) []

-- there is a list for each of so many slots
abbrev pub HaveReaders : Order → List (List ℕ) → ℕ → Type 0
HaveReaders order lists count = (slot : ℕ) → slot < count → rank_in order slot < length lists

-- what visits read: the slot of each rank, and its cell
pub record Nodes : Type 0 where
  pub slots : List ℕ
  pub cells : List Cell

-- one more of both
abbrev pub with_node : Nodes → ℕ → Cell → Nodes
with_node nodes slot cell = record { slots = nodes.slots ++ slot ∷ []; cells = nodes.cells ++ cell ∷ [] }

-- cells of so many slots, of which none looks back beyond a place, and who reads each slot, by its rank
pub record IsWired (cells : List Cell) (order : Order) (nodes : Nodes) (gate_lists flop_lists : List (List ℕ)) (count first : ℕ) : Type 0 where
  pub nets : length cells ≡ count
  pub ranked : length order.ranks ≡ count
  pub ordered : IsOrder order
  pub slots_in_order : nodes.slots ≡ order.slots
  pub in_order : nodes.cells ≡ map (cell_at cells) order.slots
  pub gates : AreFanout is_gate cells order gate_lists
  pub flops : AreFanout is_flop cells order flop_lists
  pub lawful : (net : ℕ) → net < count → IsLawful count first (cell_at cells net)

-- in a window from a place on no flip-flop shows a sample that was taken in it
abbrev pub AreClosed : (ℕ → Cell) → ℕ → ℕ → Type 0
AreClosed cells to first =
    (slot : ℕ) (clock : Clock) (pin : Pin) → cells slot ≡ Flop clock pin
    → (place : ℕ) → first ≤ place → place < 64 → arrives_by clock pin.delay (to + place - 64) ≡ true → place < first + pin.delay

-- what a cell makes in a window depends on what a slot shows in it: a gate's where it reads the slot, and a flip-flop's where
-- samples that are taken in the window may show in it
abbrev pub Relies : Bool → Cell → ℕ → Type 0
Relies open_window cell slot = (reads cell slot ≡ true) × ((is_gate cell ≡ true) ⊎ ((is_flop cell ≡ true) × (open_window ≡ true)))

-- a word repeats the level before a place from there on
abbrev pub IsSteadyFrom : (ℕ → Level) → ℕ → Type 0
IsSteadyFrom word first = (place : ℕ) → first ≤ place → place < 64 → word place ≡ word (first - 1)

-- all these numbers are marked
abbrev pub AreMarked : (ℕ → Bool) → List ℕ → Type 0
AreMarked marked numbers = (k : ℕ) → k < length numbers → marked (slice_index numbers k) ≡ true
