use Rattle.std.proofs.Common.{◌≡◌, ◌++◌, take}
use Rattle.std.specs.List.{flat_map}
use Rattle.cmb_count.specs.Texts.{path_rows}
use Rattle.cmb_count.proofs.text.push_all_paths.Given as goal

abbrev pub invariant-loop-paths : goal.invariant-loop-paths
invariant-loop-paths l = l.text.items ≡ l.fn.text.items ++ flat_map (path_rows l.netlist) (take l.paths-index l.clocks)
