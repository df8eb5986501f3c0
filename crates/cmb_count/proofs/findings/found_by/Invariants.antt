use Rattle.std.proofs.Common.{◌≡◌}
use Rattle.cmb_count.specs.Findings.{first_nets}
use Rattle.cmb_count.specs.Inner.Marks.{is_found}
use Rattle.cmb_count.proofs.findings.found_by.Given as goal

abbrev pub invariant-loop-net : goal.invariant-loop-net
invariant-loop-net l = l.nets.items ≡ first_nets l.most (is_found l.finding l.design l.marks) l.net
