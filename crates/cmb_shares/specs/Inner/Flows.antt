-- What shares send for the text.
use Rattle.std.specs.Prelude.{◌≡◌, ℕ, ◌<◌, ◌≤◌, false, List, All, length, slice_index, slice_index_or}
use Rattle.cmb_design_model.specs.Exact.{nets_of}
use Rattle.cmb_design_model.specs.Value.{value}
use Rattle.cmb_dump.specs.Shown.{IsShown}
use Rattle.cmb_engine.specs.Windows.{Windows}
use Rattle.cmb_words.specs.Changes.{IsStill, RisesWithin, TellsNet, is_among}
use Rattle.cmb_words.specs.declared.changed.Changed.{Changed}
use Rattle.cmb_shares.specs.declared.message.Envelope.{Envelope}
use Rattle.cmb_shares.specs.Inner.Gatherings.{Holds, Table, has}
use Rattle.cmb_shares.specs.Inner.Runs.{IsRun, IsTurn, Run}

-- one of the first shares owns a net
abbrev pub IsMade : Run → ℕ → ℕ → Type 0
IsMade run made net = (net < length run.owners) × (slice_index run.owners net < made)

-- the words tell all changes at the ticks of [from, upto) of the nets that the first shares own and that are shown
pub record AreMade (run : Run) (made from upto : ℕ) (changes : List Changed) : Type 0 where
  pub rises : RisesWithin 0 (nets_of run.design) changes
  pub words : All (TellsNet (value run.design) from upto) changes
  pub others : (net : ℕ) → IsMade run made net → IsShown run.shown net → is_among net changes ≡ false → IsStill (value run.design net) from upto

-- the same of changes that are in a table
pub record AreGathered (run : Run) (made from upto : ℕ) (table : Table) : Type 0 where
  pub nets : length table.words ≡ nets_of run.design
  pub words : (one : Changed) → Holds table one → TellsNet (value run.design) from upto one
  pub others : (net : ℕ) → IsMade run made net → IsShown run.shown net → has table net ≡ false → IsStill (value run.design net) from upto

-- the channels from all shares to the text, in their order, along which messages came up to a tick
abbrev pub AreSources : Run → ℕ → List Envelope → Type 0
AreSources run clock sources =
    (k : ℕ) (d : Envelope) → k < length sources
    → ((slice_index_or sources k d).sender ≡ k) × ((slice_index_or sources k d).reader ≡ length run.driven) × ((slice_index_or sources k d).upto ≡ clock)

-- the channels from all shares, along which the ticks below a clock were taken
pub record IsInbox (run : Run) (windows : Windows) (clock : ℕ) (sources : List Envelope) : Type 0 where
  pub lawful : IsRun run
  pub ends : windows ≡ run.windows
  pub count : length sources ≡ length run.driven
  pub begun : 1 ≤ clock
  pub told : AreSources run clock sources

-- all shares sent to the text of a window, in the order of their numbers
pub record IsJob (run : Run) (from upto : ℕ) (parts : List Envelope) : Type 0 where
  pub lawful : IsRun run
  pub turn : IsTurn run from upto
  pub count : length parts ≡ length run.driven
  pub each : (k : ℕ) (d : Envelope) → k < length parts → slice_index_or parts k d ≡ record { sender = k; reader = length run.driven; from = from; upto = upto }
