use Rattle.std.proofs.Common.{Contains, take}
use Rattle.cmb_count.specs.Inner.LongestPaths.{IsLongestSoFar}
use Rattle.cmb_count.specs.declared.paths.Between.TheVariants.{All}
use Rattle.cmb_count.proofs.paths.longest_to_outputs.Given as goal

abbrev pub invariant-loop-output : goal.invariant-loop-output
invariant-loop-output l = IsLongestSoFar l.design All l.arrivals (Contains (take l.output-index l.output-items)) l.longest
