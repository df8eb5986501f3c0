-- When changes arrive at nets, by the numbers of their strongly connected components.
use Rattle.std.specs.Prelude.{◌≡◌, ℕ, ◌+◌, ◌*◌, ◌<◌, ◌≤◌, Bool, true, false, List, length, slice_index, slice_index_or, All, Contains, if◌then◌else◌}
use Rattle.std.specs.List.Sorted.{IsNonDecreasingBy}
use Rattle.cmb_netlist.specs.Netlist.{Netlist}
use Rattle.cmb_design_model.specs.Design.{Design}
use Rattle.cmb_design_model.specs.Timing.{delay}
use Rattle.cmb_graph.specs.Loops.{AreLoops, AreStrongComponents}
use Rattle.cmb_graph.specs.declared.steps.Steps.TheVariants as steps
use Rattle.cmb_count.specs.Paths.{Arrives, is_origin, launch, operands}
use Rattle.cmb_count.specs.declared.arrivals.Arrival.{Arrival}
use Rattle.cmb_count.specs.declared.arrivals.Arrival.TheVariants.{Never, At, Unbounded}
use Rattle.cmb_count.specs.declared.components.Components.{Components}
use Rattle.cmb_count.specs.declared.components.Ranked.{Ranked}
use Rattle.cmb_count.specs.declared.paths.Between.{Between}

-- ---- components of gates

abbrev pub number_of : Ranked → ℕ
number_of ranked = ranked.number

-- each net once at least, by rising numbers
pub record IsOrder (numbers : List ℕ) (order : List Ranked) : Type 0 where
  pub each : All (λ ranked. (ranked.net < length numbers) × (ranked.number ≡ slice_index numbers ranked.net)) order
  pub whole : (net : ℕ) → net < length numbers → Contains order (record { number = slice_index numbers net; net = net })
  pub rising : IsNonDecreasingBy number_of order

pub record AreComponents (netlist : Netlist) (components : Components) : Type 0 where
  pub parts : AreStrongComponents netlist steps.Gates components.numbers.items
  pub loops : AreLoops netlist steps.Gates components.loops.items
  pub order : IsOrder components.numbers.items components.order.items

-- ---- arrivals

-- a change may come after so many ticks
abbrev pub Covers : Arrival → ℕ → Type 0
Covers Never ticks = ⊥
Covers (At most) ticks = ticks ≤ most
Covers Unbounded ticks = Unit {0}

-- changes come as late
abbrev pub IsReached : (ℕ → Type 0) → Arrival → Type 0
IsReached Comes Never = Unit {0}
IsReached Comes (At ticks) = Comes ticks
IsReached Comes Unbounded = (ticks : ℕ) → (more : ℕ) × (ticks ≤ more) × Comes more

abbrev pub IsWithin : ℕ → Arrival → Type 0
IsWithin most Never = Unit {0}
IsWithin most (At ticks) = ticks ≤ most
IsWithin most Unbounded = Unit {0}

abbrev pub IsEndless : Arrival → Type 0
IsEndless Never = Unit {0}
IsEndless (At ticks) = ⊥
IsEndless Unbounded = Unit {0}

-- once a change comes into a loop, there is no end of them
abbrev pub endless : Arrival → Arrival
endless Never = Never
endless (At ticks) = Unbounded
endless Unbounded = Unbounded

-- what comes to a net that is in a loop, or isn't
abbrev pub closed : Bool → Arrival → Arrival
closed true arrival = endless arrival
closed false arrival = arrival

abbrev pub later_by : Arrival → ℕ → Arrival
later_by Never ticks = Never
later_by (At most) ticks = At (most + ticks)
later_by Unbounded ticks = Unbounded

abbrev pub launched : Between → Design → ℕ → Arrival
launched between design net = if is_origin between design net then At (launch design net) else Never

-- the arrival at a net: its component's
abbrev pub time_of : List ℕ → List Arrival → ℕ → Arrival
time_of numbers times net = slice_index_or times (slice_index numbers net) Never

-- what begins at the net is covered, and what comes by operands of lower numbers
pub record IsSettled (design : Design) (between : Between) (numbers : List ℕ) (times : List Arrival) (net : ℕ) : Type 0 where
  pub launched : is_origin between design net ≡ true → Covers (time_of numbers times net) (launch design net)
  pub relaxed : (k ticks : ℕ) → k < length (operands design.netlist net)
      → slice_index numbers (slice_index (operands design.netlist net) k) < slice_index numbers net
      → Covers (time_of numbers times (slice_index (operands design.netlist net) k)) ticks → Covers (time_of numbers times net) (ticks + delay design net (k + 1))

-- what begins at the net, or comes to it by its operands: no earlier than any, no later than each may be, and little
pub record IsArrivalAt (design : Design) (between : Between) (numbers : List ℕ) (times : List Arrival) (net : ℕ) (arrival : Arrival) : Type 0 where
  pub reached : ((other : ℕ) → other < length design.netlist.names → IsReached (Arrives design between other) (time_of numbers times other))
      → IsReached (Arrives design between net) arrival
  pub launched : is_origin between design net ≡ true → Covers arrival (launch design net)
  pub relaxed : (k ticks : ℕ) → k < length (operands design.netlist net)
      → Covers (time_of numbers times (slice_index (operands design.netlist net) k)) ticks → Covers arrival (ticks + delay design net (k + 1))
  pub small : ((k : ℕ) → k < length (operands design.netlist net) → slice_index numbers (slice_index (operands design.netlist net) k) < slice_index numbers net)
      → IsWithin ((slice_index numbers net + 1) * 1000000) arrival

-- the first nets of the order are settled
pub record AreSettled (design : Design) (between : Between) (components : Components) (times : List Arrival) (count : ℕ) : Type 0 where
  pub long : length times ≡ length design.netlist.names
  pub reached : (net : ℕ) → net < length design.netlist.names → IsReached (Arrives design between net) (time_of components.numbers.items times net)
  pub within : (number : ℕ) → IsWithin ((number + 1) * 1000000) (slice_index_or times number Never)
  pub endless : (net : ℕ) → net < length design.netlist.names → slice_index_or components.loops.items net false ≡ true
      → IsEndless (time_of components.numbers.items times net)
  pub settled : (j : ℕ) (d : Ranked) → j < count → IsSettled design between components.numbers.items times (slice_index_or components.order.items j d).net

-- for each net the latest arrival
abbrev pub AreArrivals : Design → Between → List ℕ → List Arrival → Type 0
AreArrivals design between numbers times =
    (net : ℕ) → net < length design.netlist.names
    → IsReached (Arrives design between net) (time_of numbers times net)
    × ((ticks : ℕ) → Arrives design between net ticks → Covers (time_of numbers times net) ticks)
