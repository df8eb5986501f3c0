-- The whole wave of each net, and the table of cells that it may be read from.
use Rattle.std.specs.Prelude.{ℕ, ◌*◌, List, map}
use Rattle.std.specs.List.{range_with_len}
use Rattle.cmb_wave.specs.declared.level.Level.TheVariants.{X}
use Rattle.cmb_wave.specs.Wave.{Wave}
use Rattle.cmb_design_model.specs.Design.{Design}
use Rattle.cmb_design_model.specs.Exact.{nets_of}
use Rattle.cmb_design_model.specs.Value.{changes, count}

-- a net's wave up to the horizon, of which nothing is forgotten
abbrev pub whole_wave : Design → ℕ → Wave
whole_wave design net = record {
  net = net;
  base = 0;
  clock = design.horizon;
  count = count design net design.horizon;
  kept = X;
  changes = changes design net 0 design.horizon;
}

-- those of all nets, in order
abbrev pub whole_waves : Design → List Wave
whole_waves design = map (whole_wave design) (range_with_len 0 (nets_of design))

-- how many cells a table has that has one for each net and tick
abbrev pub cells_of : Design → ℕ
cells_of design = nets_of design * design.horizon
