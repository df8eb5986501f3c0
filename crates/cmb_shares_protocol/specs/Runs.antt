-- Runs of the machine of shares over lists of events, and when all is done.
use Rattle.std.specs.Prelude.{◌≡◌, ℕ, ◌+◌, ◌*◌, ◌≤◌, true, List, [], ◌∷◌}
use Rattle.cmb_shares_protocol.specs.Network.{Network, windows_on, lookahead}
use Rattle.cmb_shares_protocol.specs.Machine.{Process, Processes, Event, doer, IsDue, IsLet, CanHappen, after}

-- nobody made a window, told or took
abbrev pub start : Network → Processes
start network number = record { clock = network.begin; sent = λ reader. network.begin; received = λ sender. network.begin }

-- these events can happen, each after the one before, and lead from one state to another
abbrev pub LeadTo : Network → Processes → List Event → Processes → Type 0
LeadTo network before [] now = before ≡ now
LeadTo network before (event ∷ events) now = CanHappen network before event × LeadTo network (after network before event) events now

-- some events lead there from the start
abbrev pub IsReachable : Network → Processes → Type 0
IsReachable network processes = (events : List Event) × LeadTo network (start network) events processes

-- no run has more events: one for each tick of each clock, of the processes and of the two ends of each channel
abbrev pub most_events : Network → ℕ
most_events network = (network.shares + 1) * (2 * (network.shares + 1) + 1) * network.horizon

-- no clock of the second is less than it was
pub record NotBelow (before now : Process) : Type 0 where
  pub clock : before.clock ≤ now.clock
  pub sent : (reader : ℕ) → before.sent reader ≤ now.sent reader
  pub received : (sender : ℕ) → before.received sender ≤ now.received sender

-- each process is at the horizon
abbrev pub IsComplete : Network → Processes → Type 0
IsComplete network processes = (number : ℕ) → number ≤ network.shares → (processes number).clock ≡ network.horizon

-- no event can happen
abbrev pub IsEnd : Network → Processes → Type 0
IsEnd network processes = (event : Event) → CanHappen network processes event → ⊥

-- It is the turn of some event of a process, and no such event has to wait. So whichever of them it does first, it goes on.
pub record CanGoOn (network : Network) (processes : Processes) (number : ℕ) : Type 0 where
  pub event : Event
  pub own : doer event ≡ number
  pub due : IsDue network (processes number) event
  pub free : (other : Event) → doer other ≡ number → IsDue network (processes number) other → IsLet network processes other

-- What a channel carries is known. No more was taken than was told, and no more told than lies in the sender's lookahead. What
-- lies between are messages for which there is room. The reader didn't make more than it took: that is the local causality
-- constraint (Fujimoto 1990).
pub record IsKnown (network : Network) (processes : Processes) (sender reader : ℕ) : Type 0 where
  pub told : (processes sender).sent reader ≤ lookahead network (processes sender).clock reader
  pub taken : (processes reader).received sender ≤ (processes sender).sent reader
  pub held : (processes sender).sent reader ≤ windows_on network (network.room sender reader) ((processes reader).received sender)
  pub made : (processes reader).clock ≤ (processes reader).received sender

-- each process and each channel has the same clocks
pub record AreAlike (network : Network) (one other : Processes) : Type 0 where
  pub clock : (number : ℕ) → number ≤ network.shares → (one number).clock ≡ (other number).clock
  pub sent : (sender reader : ℕ) → network.leads sender reader ≡ true → (one sender).sent reader ≡ (other sender).sent reader
  pub received : (sender reader : ℕ) → network.leads sender reader ≡ true → (one reader).received sender ≡ (other reader).received sender
