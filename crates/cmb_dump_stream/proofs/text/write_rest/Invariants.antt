use Rattle.std.proofs.Common.{◌≡◌, ◌-◌, take}
use Rattle.std.specs.Io.KnownBytes.{Appends}
use Rattle.cmb_dump_stream.specs.Parts.{IsAtEndOf}
use Rattle.cmb_dump.specs.Shown.{whole_text}
use Rattle.cmb_dump_stream.proofs.text.write_rest.Given as goal

-- the sink took what was handed on
abbrev pub invariant-loop-kept : goal.invariant-loop-kept
invariant-loop-kept g l = record {
  here : IsAtEndOf l.kept (g.M.TextMaker.made l.maker);
  subject : l.kept.subject ≡ l.initial.kept.subject;
  text : Appends (g.S.Sink.taken l.fn.sink) (g.S.Sink.taken l.sink) (take l.kept.given (whole_text l.initial.kept.subject));
  no_failure : g.S.Sink.failures l.sink ≡ g.S.Sink.failures l.fn.sink;
}

abbrev pub decreases-loop-kept : goal.decreases-loop-kept
decreases-loop-kept g l = l.initial.kept.subject.design.horizon - l.kept.clock
