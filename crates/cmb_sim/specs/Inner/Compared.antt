-- What was found of a table that expects something of a design's run.
use Rattle.std.specs.Prelude.{◌≡◌, ℕ, List, length, count_by}
use Rattle.cmb_design_model.specs.Design.{Design}
use Rattle.cmb_design_model.specs.declared.expected.Expected.{Expected}
use Rattle.cmb_expect.specs.Expectations.{differs}
use Rattle.cmb_expect.specs.Texts.{difference_table}
use Rattle.cmb_inputs.specs.Expected.{AreExpected}

-- its rows, how many they are, how many of them differ, and the text that tells these
pub record IsCompared (design : Design) (table : List ℕ) (count differ : ℕ) (text : List ℕ) : Type 0 where
  pub rows : List Expected
  pub expected : AreExpected design table rows
  pub counted : count ≡ length rows
  pub differing : differ ≡ count_by (differs design) rows
  pub told : text ≡ difference_table design rows
