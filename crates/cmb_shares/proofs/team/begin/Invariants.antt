use Rattle.std.proofs.Common.{◌≡◌, ◌-◌}
use Rattle.cmb_dump_stream.specs.Parts.{IsAtEndOf}
use Rattle.cmb_shares.proofs.team.begin.Given as goal

abbrev pub invariant-loop-kept : goal.invariant-loop-kept
invariant-loop-kept l = record {
  here : IsAtEndOf l.kept l.stream;
  subject : l.kept.subject ≡ l.fn.kept.subject;
  given : l.kept.given ≡ l.fn.kept.given;
}

abbrev pub decreases-loop-kept : goal.decreases-loop-kept
decreases-loop-kept l = l.fn.kept.subject.design.horizon - l.kept.clock
