-- A share's engine.
use Rattle.std.specs.Prelude.{◌≡◌, ◌↔◌, ℕ, ◌<◌, ◌≤◌, ◌==◌, ◌&&◌, nat_lt, Bool, false, true, not, List, Contains, length, filter, slice_index, slice_index_or}
use Rattle.cmb_dump.specs.Shown.{IsShown}
use Rattle.cmb_engine.specs.Crossings.{IsCrossing}
use Rattle.cmb_engine.specs.Shares.{IsDriven, is_told}
use Rattle.cmb_words.specs.declared.changed.Changed.{Changed}
use Rattle.cmb_shares.specs.declared.simulator.Simulator.{Simulator}
use Rattle.cmb_shares.specs.Inner.Messages.{AreTold}
use Rattle.cmb_shares.specs.Inner.Runs.{IsRun, Owns, Run, driven_by}

-- a simulator of a share of a run
pub record IsSimulator (run : Run) (s : Simulator) : Type 0 where
  pub lawful : IsRun run
  pub number : s.number < length run.driven
  pub shares : s.shares ≡ length run.driven
  pub owners : s.owners.now ≡ run.owners
  pub windows : s.windows ≡ run.windows
  pub design : s.engine.design ≡ run.design
  pub driven : s.engine.driven ≡ driven_by run s.number
  pub width : run.windows.width ≤ s.engine.width
  pub told : (net : ℕ) → Owns run s.number net → IsShown run.shown net → is_told s.engine.told net ≡ true
  pub exports : (net : ℕ) → Contains s.engine.exports net ↔ (IsDriven (driven_by run s.number) net × IsCrossing run.design run.crossing net)

-- whether a change is of a net that a share owns
abbrev pub is_owned : List ℕ → ℕ → Changed → Bool
is_owned owners number one = nat_lt one.net (length owners) && (slice_index owners one.net == number)

-- whether it is told to a share that drives these nets
abbrev pub is_fed : List ℕ → ℕ → List Bool → Changed → Bool
is_fed owners number driven one = is_owned owners number one && not (slice_index_or driven one.net false)

-- of what was told ahead of a window, that which a share is fed is what the sender tells it
abbrev pub IsToldAhead : Run → ℕ → ℕ → ℕ → List Changed → Type 0
IsToldAhead run number from upto told =
    (reader : ℕ) → reader < length run.driven → AreTold run number reader from upto (filter (is_fed run.owners number (driven_by run reader)) told)
