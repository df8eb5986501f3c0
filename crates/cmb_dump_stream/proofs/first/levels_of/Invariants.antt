use Rattle.std.proofs.Common.{◌≡◌, ℕ, ◌<◌, get_or, length}
use Rattle.cmb_wave.specs.declared.level.Level.TheVariants.{X}
use Rattle.cmb_design_model.specs.Value.{value}
use Rattle.cmb_dump_stream.proofs.first.levels_of.Given as goal

abbrev pub invariant-loop-net : goal.invariant-loop-net
invariant-loop-net l = record {
  count : length l.levels.items ≡ l.net-index;
  right : (place : ℕ) → place < l.net-index → get_or l.levels.items place X ≡ value l.design (get_or l.nets place 0) 0;
}
