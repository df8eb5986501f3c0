-- What is told of a design that isn't simulated.
use Rattle.std.specs.Prelude.{ℕ, Result, IfOk, IfErr}
use Rattle.cmb_count.specs.Counting.{AreCounts}
use Rattle.cmb_count.specs.Texts.{IsCountsText}
use Rattle.cmb_design_model.specs.Design.{Design}
use Rattle.cmb_design_model.specs.declared.settings.Settings.{Settings}
use Rattle.cmb_faults.specs.declared.fault.Fault.{Fault}
use Rattle.cmb_inputs.specs.Inputs.{Texts}
use Rattle.cmb_inputs.specs.Spelling.{HaveTextFault, SpellAny}
use Rattle.cmb_inputs.specs.declared.check.Checked.{Checked}

-- the counts of the design, and their text with the first so many names of what they count
pub record IsChecked (design : Design) (named : ℕ) (checked : Checked) : Type 0 where
  pub counts : AreCounts design checked.counts
  pub text : IsCountsText design named checked.counts checked.text.items

-- the counts are those of the design that the texts spell
abbrev pub IsCountOf : Settings → ℕ → Texts → Checked → Type 0
IsCountOf settings named texts checked = (design : Design) × SpellAny texts settings design × IsChecked design named checked

-- the counts of the texts' design, or why there are none
pub record AreCounted (settings : Settings) (named : ℕ) (texts : Texts) (answer : Result Checked Fault) : Type 0 where
  pub ok : IfOk answer (IsCountOf settings named texts)
  pub fault : IfErr answer (HaveTextFault texts settings)
