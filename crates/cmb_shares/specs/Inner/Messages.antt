-- What a message tells.
use Rattle.std.specs.Prelude.{◌≡◌, ℕ, ◌<◌, ◌≤◌, false, List, All, length, slice_index_or}
use Rattle.cmb_design_model.specs.Exact.{nets_of}
use Rattle.cmb_design_model.specs.Value.{value}
use Rattle.cmb_words.specs.Changes.{IsStill, TellsNet, is_among}
use Rattle.cmb_words.specs.declared.changed.Changed.{Changed}
use Rattle.cmb_shares.specs.declared.message.Envelope.{Envelope}
use Rattle.cmb_shares.specs.Inner.Runs.{Owns, Reads, Run}

-- changes come by rising number
abbrev pub Rise : List Changed → Type 0
Rise changes = (j k : ℕ) (d : Changed) → j < k → k < length changes → (slice_index_or changes j d).net < (slice_index_or changes k d).net

-- The words tell all changes at the ticks of [from, upto) of those nets that a sender owns and a reader reads. Each net that a share is
-- told of is the sender's. What the text is told comes by rising number.
pub record AreTold (run : Run) (sender reader from upto : ℕ) (changes : List Changed) : Type 0 where
  pub within : All (λ one. one.net < nets_of run.design) changes
  pub rises : length run.driven ≤ reader → Rise changes
  pub among : reader < length run.driven → All (λ one. Owns run sender one.net) changes
  pub words : All (TellsNet (value run.design) from upto) changes
  pub others : (net : ℕ) → Owns run sender net → Reads run reader net → is_among net changes ≡ false → IsStill (value run.design net) from upto

abbrev pub IsMessage : Run → Envelope → List Changed → Type 0
IsMessage run envelope changes = AreTold run envelope.sender envelope.reader envelope.from envelope.upto changes
