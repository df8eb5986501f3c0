-- Stations and the text as logical processes of the machine of shares.
use Rattle.std.specs.Prelude.{◌≡◌, ℕ, zero, suc, ◌<◌, ◌≤◌, ◌==◌, Bool, true, false, All, List, [], ◌∷◌, length, slice_index_or, if◌then◌else◌}
use Rattle.std.specs.List.{list_any}
use Rattle.cmb_engine.specs.Windows.{end_of}
use Rattle.cmb_shares_protocol.specs.Machine.{Process}
use Rattle.cmb_shares_protocol.specs.Network.{IsNetwork, Network}
use Rattle.cmb_shares_protocol.specs.Runs.{start}
use Rattle.cmb_shares_protocol.specs.Turns.{GoesBy, turn}
use Rattle.cmb_shares.specs.declared.message.Envelope.{Envelope}
use Rattle.cmb_shares.specs.Inner.Channels.{greeting}
use Rattle.cmb_shares.specs.Inner.Flows.{AreSources}
use Rattle.cmb_shares.specs.Inner.Runs.{Run}
use Rattle.cmb_shares.specs.Inner.Stations.{Standing}

-- one of some channels leads from, or to, the process of a number
abbrev pub leads_by : (Envelope → ℕ) → List Envelope → ℕ → Bool
leads_by peer channels number = list_any (λ e. peer e == number) channels

-- up to where messages went along it; where there is no such channel, the tick at which all begin
abbrev pub upto_by : (Envelope → ℕ) → List Envelope → ℕ → ℕ
upto_by peer [] number = 1
upto_by peer (e ∷ es) number = if peer e == number then e.upto else upto_by peer es number

-- a process by its number, its clock, and the last messages of the channels by which it tells and of those by which it is told
pub record Member : Type 0 where
  pub number : ℕ
  pub clock : ℕ
  pub outs : List Envelope
  pub ins : List Envelope

abbrev pub member_of : Standing → Member
member_of station =
    record { number = station.number; clock = station.clock; outs = station.text ∷ station.feeds; ins = station.inlets }

-- the text has the number behind those of the shares, and tells nobody
abbrev pub text_of : Run → ℕ → List Envelope → Member
text_of run clock sources = record { number = length run.driven; clock = clock; outs = []; ins = sources }

abbrev pub process_of : Member → Process
process_of member = record {
  clock = member.clock;
  sent = upto_by (λ e. e.reader) member.outs;
  received = upto_by (λ e. e.sender) member.ins;
}

-- a network of the shares of a run, in which a process has these channels and no others
pub record IsIn (run : Run) (network : Network) (member : Member) : Type 0 where
  pub shares : network.shares ≡ length run.driven
  pub begin : network.begin ≡ 1
  pub ends : (tick : ℕ) → network.next_end tick ≡ end_of run.windows tick
  pub horizon : network.horizon ≡ run.windows.horizon
  pub tells : (reader : ℕ) → network.leads member.number reader ≡ leads_by (λ e. e.reader) member.outs reader
  pub takes : (sender : ℕ) → network.leads sender member.number ≡ leads_by (λ e. e.sender) member.ins sender

-- the channels of some stations: from the one in a place to the process of a number
abbrev pub leads_among : List Standing → ℕ → ℕ → Bool
leads_among [] sender reader = false
leads_among (station ∷ stations) zero reader = leads_by (λ e. e.reader) (station.text ∷ station.feeds) reader
leads_among (station ∷ stations) (suc sender) reader = leads_among stations sender reader

-- the network of the shares of a run that have these stations
abbrev pub network_of : Run → List Standing → (ℕ → ℕ → ℕ) → Network
network_of run stations room = record {
  shares = length run.driven;
  leads = leads_among stations;
  room = room;
  begin = 1;
  next_end = end_of run.windows;
  horizon = run.windows.horizon;
}

-- Stations tell and are told by one another alone, and tell the text. Where one tells another, that is told by it. Nothing was told yet.
pub record AreJoined (count : ℕ) (stations : List Standing) : Type 0 where
  pub both : (sender reader : ℕ) (d : Standing) → sender < length stations → reader < length stations
      → leads_by (λ e. e.reader) (slice_index_or stations sender d).feeds reader ≡ leads_by (λ e. e.sender) (slice_index_or stations reader d).inlets sender
  pub readers : (sender reader : ℕ) (d : Standing) → sender < length stations → leads_by (λ e. e.reader) (slice_index_or stations sender d).feeds reader ≡ true → reader < length stations
  pub senders : (sender reader : ℕ) (d : Standing) → reader < length stations → leads_by (λ e. e.sender) (slice_index_or stations reader d).inlets sender ≡ true → sender < length stations
  pub text : (sender : ℕ) (d : Standing) → sender < length stations → (slice_index_or stations sender d).text ≡ greeting sender count
  pub begun : (number : ℕ) (d : Standing) → number < length stations → All (λ e. e.upto ≡ 1) (slice_index_or stations number d).feeds × All (λ e. e.upto ≡ 1) (slice_index_or stations number d).inlets

-- stations have no channels but those to the text
abbrev pub AreLone : ℕ → List Standing → Type 0
AreLone count stations =
    (k : ℕ) (d : Standing) → k < length stations → ((slice_index_or stations k d).feeds ≡ []) × ((slice_index_or stations k d).inlets ≡ []) × ((slice_index_or stations k d).text ≡ greeting k count)

-- The network of stations is lawful, with any room for messages. Each station is in it, in the state with which a run of the machine
-- starts; so is the text, which all of them tell.
abbrev pub AreMembers : Run → List Standing → Type 0
AreMembers run stations =
    (room : ℕ → ℕ → ℕ) → ((sender reader : ℕ) → 1 ≤ room sender reader)
    → IsNetwork (network_of run stations room) × ((k : ℕ) (d : Standing) → k < length stations → IsIn run (network_of run stations room) (member_of (slice_index_or stations k d)) × (process_of (member_of (slice_index_or stations k d)) ≡ start (network_of run stations room) k))
    × ((clock : ℕ) (sources : List Envelope) → length sources ≡ length run.driven → AreSources run clock sources → IsIn run (network_of run stations room) (text_of run clock sources))

-- the process went on by a turn of the machine of shares, whatever the other channels of the network, and has the same channels
abbrev pub Turns : Run → Member → Member → Type 0
Turns run before now =
    (network : Network) → IsNetwork network → IsIn run network before → GoesBy network before.number (process_of before) (turn network before.number) (process_of now) × IsIn run network now
