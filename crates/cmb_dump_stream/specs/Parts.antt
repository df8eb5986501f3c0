-- A text as it is made, what of it is kept, and who goes on with it.
use Rattle.std.specs.Prelude.{◌≡◌, ℕ, ◌≤◌, List, ◌++◌, length, take}
use Rattle.cmb_design_model.specs.Exact.{nets_of}
use Rattle.cmb_design_model.specs.Lawful.{IsDesign}
use Rattle.cmb_design_model.specs.Value.{value}
use Rattle.cmb_dump.specs.Dumps.{Dump}
use Rattle.cmb_dump.specs.Shown.{CanShow, Subject, text_upto, whole_text}
use Rattle.cmb_engine.specs.Engines.{Engine}

-- of what a text is, the tick up to which it was made, and how many bytes of that were handed on
pub record TextBuffer : Type 0 where
  pub subject : Subject
  pub clock : ℕ
  pub given : ℕ

-- the text of a run up to a tick
abbrev pub made_text : Subject → ℕ → List ℕ
made_text subject upto = text_upto subject (value subject.design) upto

-- what was handed on and what is kept are the text up to the clock
pub record IsKept (subject : Subject) (clock given : ℕ) (text : List ℕ) : Type 0 where
  pub lawful : IsDesign subject.design
  pub shows : CanShow (nets_of subject.design) subject.shown
  pub begun : 1 ≤ clock
  pub within : clock ≤ subject.design.horizon
  pub handed : given ≤ length (whole_text subject)
  pub made : take given (whole_text subject) ++ text ≡ made_text subject clock

-- of what a text was made, and up to which tick
pub record Made : Type 0 where
  pub subject : Subject
  pub clock : ℕ

-- what is kept was made up to where a maker is
pub record IsAtEndOf (kept : TextBuffer) (made : Made) : Type 0 where
  pub same : kept.subject ≡ made.subject
  pub here : kept.clock ≡ made.clock

-- a dump goes on where an engine does
pub record IsStream (engine : Engine) (dump : Dump) : Type 0 where
  pub dumped : dump.subject.design ≡ engine.design
  pub timed : dump.clock ≡ engine.clock
