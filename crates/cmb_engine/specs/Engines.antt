-- An engine, as its public contracts see it.
use Rattle.std.specs.Prelude.{ℕ}
use Rattle.cmb_design_model.specs.Design.{Design}

-- a design, the most ticks of a window, and the tick below which all its nets are known
pub record Engine : Type 0 where
  pub design : Design
  pub width : ℕ
  pub clock : ℕ
