-- The text of a window, as a thread makes it.
use Rattle.std.specs.Prelude.{◌≡◌, ℕ, ◌*◌, ◌<◌, ◌≤◌, ◌++◌, List, Option, IfSome, IsSome, length}
use denote.Ref.{Bor}
use Rattle.cmb_design_model.specs.Design.{Design}
use Rattle.cmb_design_model.specs.Exact.{nets_of}
use Rattle.cmb_design_model.specs.Value.{value}
use Rattle.cmb_dump.specs.Dumps.{Dump}
use Rattle.cmb_dump.specs.Shown.{CanShow, TellsShown, subject_of}
use Rattle.cmb_dump_stream.specs.Parts.{made_text}
use Rattle.cmb_words.specs.declared.changed.Changed.{Changed}
use Rattle.cmb_shares.specs.Inner.Flows.{AreGathered}
use Rattle.cmb_shares.specs.Inner.Gatherings.{AreTaken, Table}
use Rattle.cmb_shares.specs.Inner.Runs.{IsRun, IsTurn, Run, subject_in}

-- a run's text is of a design, and of these nets of it
pub record IsOf (run : Run) (design : Design) (nets : Option (Bor (List ℕ))) : Type 0 where
  pub same : subject_of design nets ≡ subject_in run
  pub shows : CanShow (nets_of run.design) run.shown

-- the text of the ticks of [from, upto)
pub record IsText (run : Run) (from upto : ℕ) (text : List ℕ) : Type 0 where
  pub order : from < upto
  pub within : upto ≤ run.design.horizon
  pub told : made_text (subject_in run) upto ≡ made_text (subject_in run) from ++ text

-- of what all shares sent of a window, the changes of the nets that are marked in the first numbers of a table were taken
pub record IsTaking (run : Run) (from upto number : ℕ) (table : Table) (changes : List Changed) : Type 0 where
  pub lawful : IsRun run
  pub turn : IsTurn run from upto
  pub within : number ≤ length table.marks
  pub made : AreGathered run (length run.driven) from upto table
  pub taken : AreTaken table (64 * number) changes

-- a dump began the text of a window, by what changes there of the nets that are shown
pub record IsBegun (run : Run) (from upto : ℕ) (dump : Dump) : Type 0 where
  pub some : IsSome dump.begun
  pub clock : dump.clock ≡ from
  pub window : IfSome dump.begun (λ w. (w.upto ≡ upto) × TellsShown run.shown (value run.design) (nets_of run.design) from upto w.changed)
