-- In which order messages go along a channel.
use Rattle.std.specs.Prelude.{◌≡◌, ℕ, ◌≤◌, List, [], ◌∷◌, length}
use Rattle.cmb_engine.specs.Windows.{Windows, end_of}
use Rattle.cmb_shares.specs.declared.message.Envelope.{Envelope}

-- the first message of a channel tells of no tick, and says from which share it leads and where to
abbrev pub greeting : ℕ → ℕ → Envelope
greeting sender reader = record { sender = sender; reader = reader; from = 1; upto = 1 }

-- the last of some messages, of which one is the first
abbrev pub latest : Envelope → List Envelope → Envelope
latest first [] = first
latest first (next ∷ more) = latest next more

abbrev pub latest_of : List Envelope → Envelope
latest_of [] = greeting 0 0
latest_of (first ∷ more) = latest first more

-- a message is of the same channel as the one before, begins where that ended, and tells of a window
pub record Follows (windows : Windows) (last next : Envelope) : Type 0 where
  pub sender : next.sender ≡ last.sender
  pub reader : next.reader ≡ last.reader
  pub from : next.from ≡ last.upto
  pub upto : next.upto ≡ end_of windows last.upto

-- a message may go behind these
pub record MayGo (windows : Windows) (before : List Envelope) (next : Envelope) : Type 0 where
  pub first : length before ≡ 0 → next ≡ greeting next.sender next.reader
  pub later : 1 ≤ length before → Follows windows (latest_of before) next
