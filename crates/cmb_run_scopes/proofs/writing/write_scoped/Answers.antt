use Rattle.std.proofs.Common.{drop, rules, take}
use Rattle.std.proofs.lemmas.List.{take_rest}
use Rattle.std.specs.Io.KnownBytes.{Appends}
use Rattle.cmb_run_scopes.proofs.WriteFacts.{begun-second}
use Rattle.cmb_run_scopes.proofs.writing.write_scoped.Goals as goal

pub returns-in-Err-write_whole-clause-begun : goal.returns-in-Err-write_whole-clause-begun
returns-in-Err-write_whole-clause-begun g c =
    let rest = drop c.args.headers.now.plain c.args.text.now in
    let lines = c.as_slice-lines.ensures.value in
    let first : Appends (g.S.Sink.taken c.args.sink.now) (g.S.Sink.taken c.write_whole.new.sink) c.as_slice-lines.result.now = search rules in
    let second : Appends (g.S.Sink.taken c.write_whole.new.sink) (g.S.Sink.taken c.write_whole-2.new.sink) (take c.in-Err-write_whole.done rest) = rw take_rest at c.in-Err-write_whole.ensures.err.1 in
    rw (← lines) (begun-second _ _ _ c.as_slice-lines.result.now rest c.in-Err-write_whole.done first second)
