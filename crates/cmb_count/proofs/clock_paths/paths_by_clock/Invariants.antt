use Rattle.std.proofs.Common.{◌≡◌, map, take}
use Rattle.std.specs.Prelude.{All}
use Rattle.cmb_design_model.specs.Timing.{clock_of}
use Rattle.cmb_count.specs.Findings.{ArePaths, clock_in}
use Rattle.cmb_count.proofs.clock_paths.paths_by_clock.Given as goal

abbrev pub invariant-loop-net : goal.invariant-loop-net
invariant-loop-net l = record {
  clocks : map clock_in l.all.items ≡ map (clock_of l.design) (take l.net-index l.net-items);
  paths : All (ArePaths l.design) l.all.items;
}
