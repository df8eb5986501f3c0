use Rattle.cmb_count.specs.Inner.LongestPaths.{IsLongestSoFar}
use Rattle.cmb_count.proofs.LongestFacts.{IsEndBelow}
use Rattle.cmb_count.proofs.paths.longest_to_data.Given as goal

abbrev pub invariant-loop-flop : goal.invariant-loop-flop
invariant-loop-flop l = IsLongestSoFar l.design l.between l.arrivals (IsEndBelow l.between l.design l.flop) l.longest
