-- What a run is of: a design whose nets are partitioned among logical processes.
use Rattle.std.specs.Prelude.{◌≡◌, ℕ, ◌+◌, ◌<◌, ◌≤◌, Bool, List, [], All, length, slice_index, slice_index_or}
use Rattle.cmb_design_model.specs.Design.{Design}
use Rattle.cmb_design_model.specs.Exact.{nets_of}
use Rattle.cmb_design_model.specs.Timing.{delay}
use Rattle.cmb_dump.specs.Shown.{IsShown, Shown, Subject}
use Rattle.cmb_engine.specs.Crossings.{AreWithinLookahead, IsCrossing}
use Rattle.cmb_engine.specs.Shares.{IsDriven, IsGiven}
use Rattle.cmb_engine.specs.Windows.{HaveTicks, Windows, end_of}

-- a design, the nets of it that are shown, the share that owns each net, which nets cross, which each share drives, and where windows end
pub record Run : Type 0 where
  pub design : Design
  pub shown : Shown
  pub owners : List ℕ
  pub crossing : List Bool
  pub driven : List (List Bool)
  pub windows : Windows

-- of what its text is
abbrev pub subject_in : Run → Subject
subject_in run = record { design = run.design; shown = run.shown }

-- the nets that the share of a number drives
abbrev pub driven_by : Run → ℕ → List Bool
driven_by run number = slice_index_or run.driven number []

-- the share of a number owns a net
abbrev pub Owns : Run → ℕ → ℕ → Type 0
Owns run number net = (net < length run.owners) × (slice_index run.owners net ≡ number)

-- a reader reads a net: a share what it is given, and the text, whose number comes behind theirs, what is shown
abbrev pub Reads : Run → ℕ → ℕ → Type 0
Reads run reader net = (reader < length run.driven → IsGiven run.design (driven_by run reader) net) × (length run.driven ≤ reader → IsShown run.shown net)

-- each net has an owner, which drives it; what shares are given are crossing flip-flops, and windows lie in the lookahead of these
pub record IsRun (run : Run) : Type 0 where
  pub nets : length run.owners ≡ nets_of run.design
  pub crossed : length run.crossing ≡ length run.owners
  pub below : All (λ owner. owner < length run.driven) run.owners
  pub marks : (number : ℕ) → number < length run.driven → length (driven_by run number) ≡ nets_of run.design
  pub owned : (number net : ℕ) → number < length run.driven → Owns run number net → IsDriven (driven_by run number) net
  pub known : (number net : ℕ) → number < length run.driven → IsGiven run.design (driven_by run number) net → IsCrossing run.design run.crossing net
  pub ahead : AreWithinLookahead run.design run.crossing run.windows
  pub soon : (net : ℕ) → IsCrossing run.design run.crossing net → delay run.design net 1 < run.windows.width
  pub horizon : run.windows.horizon ≡ run.design.horizon
  pub narrow : run.windows.width ≤ 63
  pub each : HaveTicks run.windows

-- the window of a run from a tick on
pub record IsTurn (run : Run) (from upto : ℕ) : Type 0 where
  pub late : 1 ≤ from
  pub early : from < run.windows.horizon
  pub later : from < upto
  pub short : upto ≤ from + run.windows.width
  pub within : upto ≤ run.windows.horizon
  pub end : upto ≡ end_of run.windows from
