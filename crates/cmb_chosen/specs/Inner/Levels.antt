-- Rows of which the nets have other numbers, and the levels that are found for them.
use Rattle.std.specs.Prelude.{◌≡◌, ℕ, ◌<◌, List, length, slice_index, slice_index_or}
use Rattle.cmb_wave.specs.declared.level.Level.{Level}
use Rattle.cmb_design_model.specs.Design.{Design}
use Rattle.cmb_design_model.specs.Value.{value}
use Rattle.cmb_design_model.specs.declared.expected.Expected.{Expected}

abbrev pub with_net : ℕ → Expected → Expected
with_net net row = record { tick = row.tick; net = net; level = row.level }

-- the first rows, each with one of these nets
pub record AreRenumbered (rows : List Expected) (nets : List ℕ) (count : ℕ) (placed : List Expected) : Type 0 where
  pub long : length placed ≡ count
  pub each : (i : ℕ) (d : Expected) → i < count → slice_index_or placed i d ≡ with_net (slice_index nets i) (slice_index_or rows i d)

-- the levels that these nets have at the rows' ticks
pub record AreLevelsAt (design : Design) (nets : List ℕ) (rows : List Expected) (levels : List Level) : Type 0 where
  pub long : length levels ≡ length rows
  pub each : (i : ℕ) (d : Level) (e : Expected) → i < length rows → slice_index_or levels i d ≡ value design (slice_index nets i) (slice_index_or rows i e).tick
