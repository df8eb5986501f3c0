-- A writer of a text in parts, and the text that it gave.
use Rattle.std.specs.Prelude.{ℕ, ◌≤◌, List, [], Option, None, Some}
use Rattle.cmb_wave.specs.declared.level.Level.{Level}
use Rattle.cmb_design_model.specs.Design.{Design}
use Rattle.cmb_run_text.specs.Vcd.{header, part_text}

-- the design, and the tick up to which its text was given
pub record Writer : Type 0 where
  pub design : Design
  pub done : Option ℕ

abbrev pub new_writer : Design → Writer
new_writer design = record { design = design; done = None }

-- the text up to a tick, nothing where no tick is given
abbrev pub done_text : Design → (ℕ → ℕ → Level) → Option ℕ → List ℕ
done_text design level None = []
done_text design level (Some upto) = part_text design.netlist.names design.horizon level upto

-- a tick isn't before the one up to which the text was given
abbrev pub IsNotBefore : Option ℕ → ℕ → Type 0
IsNotBefore None upto = Unit {0}
IsNotBefore (Some done) upto = done ≤ upto

-- what stands before the lines of the ticks in a part: the declarations in the first
abbrev pub begun_by : Design → Option ℕ → List ℕ
begun_by design None = header design.netlist.names
begun_by design (Some done) = []

abbrev pub begun_text : Writer → List ℕ
begun_text writer = begun_by writer.design writer.done
