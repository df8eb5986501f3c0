-- A turn of a logical process, by which it goes on by a window, as it sees it.
use Rattle.std.specs.Prelude.{◌≡◌, ℕ, zero, suc, ◌<◌, ◌==◌, Bool, true, List, [], ◌∷◌, ◌++◌, if◌then◌else◌}
use Rattle.cmb_shares_protocol.specs.Network.{Network, ahead, windows_on}
use Rattle.cmb_shares_protocol.specs.Machine.{Process, Event, Tell, Take, Advance, doer, IsDue, moved}

-- These events of a process are due, each after the one before, and lead it from one state to another. What it waits for between them, the other processes decide.
abbrev pub GoesBy : Network → ℕ → Process → List Event → Process → Type 0
GoesBy network number before [] now = before ≡ now
GoesBy network number before (event ∷ events) now =
    (doer event ≡ number) × IsDue network before event × GoesBy network number (moved network before event) events now

-- nothing is due of a process any more
abbrev pub IsOver : Network → ℕ → Process → Type 0
IsOver network number process = (event : Event) → doer event ≡ number → IsDue network process event → ⊥

-- of some events those that one process does
abbrev pub own : ℕ → List Event → List Event
own number [] = []
own number (event ∷ events) = if doer event == number then event ∷ own number events else own number events

-- one of the events of channels to or from those below a number, where there are such
abbrev pub on_each : (ℕ → Bool) → (ℕ → Event) → ℕ → List Event
on_each leads event zero = []
on_each leads event (suc many) = on_each leads event many ++ (if leads many then event many ∷ [] else [])

-- A process tells shares of its next window, and takes what it is told of it. It makes the window, and tells the text of it.
-- The text tells nobody, so it takes, and makes its window.
abbrev pub turn : Network → ℕ → List Event
turn network number =
    on_each (network.leads number) (Tell number) network.shares
    ++ on_each (λ sender. network.leads sender number) (λ sender. Take sender number) network.shares
    ++ Advance number ∷ (if network.leads number network.shares then Tell number network.shares ∷ [] else [])

-- so many turns, one after the other
abbrev pub turns : Network → ℕ → ℕ → List Event
turns network number zero = []
turns network number (suc many) = turns network number many ++ turn network number

-- a run has so many windows
pub record HasWindows (network : Network) (many : ℕ) : Type 0 where
  pub all : windows_on network many network.begin ≡ network.horizon
  pub each : (few : ℕ) → few < many → windows_on network few network.begin < network.horizon

-- the process made, told and took all below a tick, and nothing from there on
pub record IsAt (network : Network) (number tick : ℕ) (process : Process) : Type 0 where
  pub clock : process.clock ≡ tick
  pub sent : (reader : ℕ) → network.leads number reader ≡ true → process.sent reader ≡ tick
  pub received : (sender : ℕ) → network.leads sender number ≡ true → process.received sender ≡ tick

-- the process, a window on
abbrev pub turned : Network → ℕ → Process → Process
turned network number process = record {
  clock = ahead network process.clock;
  sent = λ reader. if network.leads number reader then ahead network (process.sent reader) else process.sent reader;
  received = λ sender. if network.leads sender number then ahead network (process.received sender) else process.received sender;
}
