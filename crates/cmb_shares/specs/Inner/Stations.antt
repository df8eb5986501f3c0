-- A logical process: a share's engine, and the channels from and to it.
use Rattle.std.specs.Prelude.{◌≡◌, ℕ, ◌<◌, Bool, false, List, All, Contains, length, map, slice_index}
use Rattle.cmb_design_model.specs.Value.{value}
use Rattle.cmb_engine.specs.Shares.{IsGiven}
use Rattle.cmb_words.specs.Changes.{IsStill, TellsNet, is_among}
use Rattle.cmb_words.specs.declared.changed.Changed.{Changed}
use Rattle.cmb_shares.specs.declared.message.Envelope.{Envelope}
use Rattle.cmb_shares.specs.declared.simulator.Simulator.{Simulator}
use Rattle.cmb_shares.specs.Inner.Runs.{IsTurn, Owns, Reads, Run, driven_by}
use Rattle.cmb_shares.specs.Inner.Simulators.{IsSimulator}

-- the number of a share, the tick up to which it made windows, the shares that tell it of theirs, and the last messages of its channels
pub record Standing : Type 0 where
  pub number : ℕ
  pub clock : ℕ
  pub senders : List ℕ
  pub inlets : List Envelope
  pub feeds : List Envelope
  pub text : Envelope

abbrev pub senders_of : List Envelope → List ℕ
senders_of inlets = map (λ e. e.sender) inlets

abbrev pub readers_of : List Envelope → List ℕ
readers_of feeds = map (λ e. e.reader) feeds

-- channels to a reader, along which messages came up to a tick
abbrev pub AreHeard : ℕ → ℕ → List Envelope → Type 0
AreHeard reader clock inlets = All (λ e. (e.reader ≡ reader) × (e.upto ≡ clock)) inlets

-- channels from a sender, along which messages went up to a tick
abbrev pub AreFed : ℕ → ℕ → List Envelope → Type 0
AreFed sender clock feeds = All (λ e. (e.sender ≡ sender) × (e.upto ≡ clock)) feeds

-- a channel leads to a share that drives these nets
abbrev pub LeadsTo : Run → Envelope → List Bool → Type 0
LeadsTo run outlet driven = (outlet.reader < length run.driven) × (driven ≡ driven_by run outlet.reader)

-- a share's engine, and the last messages of its channels
pub record IsStation (run : Run) (simulator : Simulator) (inlets feeds : List Envelope) (text : Envelope) : Type 0 where
  pub simulates : IsSimulator run simulator
  pub heard : AreHeard simulator.number simulator.engine.clock inlets
  pub fed : AreFed simulator.number simulator.engine.clock feeds
  pub sender : text.sender ≡ simulator.number
  pub reader : text.reader ≡ length run.driven
  pub told : text.upto ≡ simulator.engine.clock

-- the owner of each net that a share is given is among these
abbrev pub Covers : Run → ℕ → List ℕ → Type 0
Covers run number senders = (net : ℕ) → IsGiven run.design (driven_by run number) net → Contains senders (slice_index run.owners net)

-- A share's engine in the midst of a window: others were told up to the window's end, and it was told up to the window's beginning by all
-- owners of what it is given.
pub record IsTold (run : Run) (simulator : Simulator) (upto : ℕ) (inlets feeds : List Envelope) (text : Envelope) : Type 0 where
  pub simulates : IsSimulator run simulator
  pub turn : IsTurn run simulator.engine.clock upto
  pub heard : AreHeard simulator.number simulator.engine.clock inlets
  pub covers : Covers run simulator.number (senders_of inlets)
  pub fed : AreFed simulator.number upto feeds
  pub sender : text.sender ≡ simulator.number
  pub reader : text.reader ≡ length run.driven
  pub told : text.upto ≡ simulator.engine.clock

-- a station told others of its next window, and did nothing else
pub record HasTold (before now : Standing) : Type 0 where
  pub number : now.number ≡ before.number
  pub clock : now.clock ≡ before.clock
  pub inlets : now.inlets ≡ before.inlets
  pub text : now.text ≡ before.text
  pub readers : readers_of now.feeds ≡ readers_of before.feeds
  pub fed : AreFed before.number before.clock before.feeds

-- what these senders tell a reader of a window
pub record AreHeardOf (run : Run) (reader from upto : ℕ) (senders : List ℕ) (changes : List Changed) : Type 0 where
  pub words : All (TellsNet (value run.design) from upto) changes
  pub others : (sender net : ℕ) → Contains senders sender → Owns run sender net → Reads run reader net → is_among net changes ≡ false → IsStill (value run.design net) from upto
