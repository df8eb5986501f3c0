-- The machine of shares: up to which tick each logical process went, and each channel was told and taken.
-- It is the protocol of Chandy and Misra (1979) and Bryant (1977) for processes with the same windows. Every tell is of one window: if nothing changes in it, it is a null message.
-- The machine of clusters (cmb_core_protocol) is another one. There each net has a clock, and is driven by one cluster alone; a message may have any span, and channels hold any number; and an event that can't happen is refused. Here a process has one clock for all its nets, several processes may drive the same net, and an event waits until it can happen.
use Rattle.std.specs.Prelude.{◌≡◌, ℕ, ◌<◌, ◌≤◌, ◌==◌, true, ⊤, if◌then◌else◌}
use Rattle.cmb_shares_protocol.specs.Network.{Network, ahead, windows_on, lookahead}

-- a logical process: its clock, below which it made its windows, and the clocks of its channels at its own end
pub record Process : Type 0 where
  pub clock : ℕ
  -- by reader, up to where it told
  pub sent : ℕ → ℕ
  -- by sender, up to where it took what it was told
  pub received : ℕ → ℕ

-- by number
abbrev pub Processes : Type 0
Processes = ℕ → Process

pub data Event : Type 0 where
  -- a sender tells a reader of a window
  Tell : ℕ → ℕ → Event
  -- from a sender, a reader takes what it tells of a window
  Take : ℕ → ℕ → Event
  -- a process makes a window
  Advance : ℕ → Event

-- the process that does it
abbrev pub doer : Event → ℕ
doer (Tell sender reader) = sender
doer (Take sender reader) = reader
doer (Advance number) = number

-- the process told all that it can
abbrev pub HasTold : Network → ℕ → Process → Type 0
HasTold network number process =
    (reader : ℕ) → network.leads number reader ≡ true → lookahead network process.clock reader ≤ process.sent reader

-- the process took all that it is told of its next window
abbrev pub HasTaken : Network → ℕ → Process → Type 0
HasTaken network number process =
    (sender : ℕ) → network.leads sender number ≡ true → ahead network process.clock ≤ process.received sender

-- It is the event's turn. A process first tells, in any order, then takes, in any order, and then advances.
abbrev pub IsDue : Network → Process → Event → Type 0
IsDue network process (Tell sender reader) =
    (network.leads sender reader ≡ true) × (process.sent reader < lookahead network process.clock reader)
IsDue network process (Take sender reader) =
    (network.leads sender reader ≡ true) × HasTold network reader process × (process.received sender < ahead network process.clock)
IsDue network process (Advance number) =
    (number ≤ network.shares) × (process.clock < network.horizon) × HasTold network number process × HasTaken network number process

-- the ticks of some channels, of which one goes on by a window
abbrev pub gone_on : Network → ℕ → (ℕ → ℕ) → ℕ → ℕ
gone_on network at ticks other = if other == at then ahead network (ticks other) else ticks other

-- the process that does it, after an event
abbrev pub moved : Network → Process → Event → Process
moved network process (Tell sender reader) = record process { sent = gone_on network reader process.sent }
moved network process (Take sender reader) = record process { received = gone_on network sender process.received }
moved network process (Advance number) = record process { clock = ahead network process.clock }

-- The other end of the channel lets it happen: there is room for a message, or there is a message. A message lies in a channel
-- for each window between what was taken and what was told.
abbrev pub IsLet : Network → Processes → Event → Type 0
IsLet network processes (Tell sender reader) =
    (processes sender).sent reader < windows_on network (network.room sender reader) ((processes reader).received sender)
IsLet network processes (Take sender reader) = (processes reader).received sender < (processes sender).sent reader
IsLet network processes (Advance number) = ⊤

-- it is the event's turn, and it needn't wait
abbrev pub CanHappen : Network → Processes → Event → Type 0
CanHappen network processes event = IsDue network (processes (doer event)) event × IsLet network processes event

-- all processes, after an event
abbrev pub after : Network → Processes → Event → Processes
after network processes event number =
    if number == doer event then moved network (processes number) event else processes number
