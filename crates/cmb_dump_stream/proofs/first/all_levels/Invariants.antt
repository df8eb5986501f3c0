use Rattle.std.proofs.Common.{◌≡◌, ℕ, ◌<◌, get_or, length}
use Rattle.cmb_wave.specs.declared.level.Level.TheVariants.{X}
use Rattle.cmb_design_model.specs.Value.{value}
use Rattle.cmb_dump_stream.proofs.first.all_levels.Given as goal

abbrev pub invariant-loop-net : goal.invariant-loop-net
invariant-loop-net l = record {
  count : length l.levels.items ≡ l.net;
  right : (net : ℕ) → net < l.net → get_or l.levels.items net X ≡ value l.design net 0;
}
