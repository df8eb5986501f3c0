use Rattle.std.proofs.Common.{◌+◌, List, ℕ, ap, length, subst, sym, take, arith}
use Rattle.std.specs.Io.KnownBytes.{Appends}
use Rattle.cmb_dump_stream.specs.Parts.{TextBuffer}
use Rattle.cmb_dump_stream.proofs.StreamFacts.{Appends-given, IsCutOff-given, IsKept-given, made-fits}
use Rattle.cmb_dump_stream.proofs.buffer.TextBuffer.give.Goals as goal
use Rattle.cmb_run_text.specs.Beginnings.{IsCutOff}
use Rattle.cmb_dump.specs.Shown.{whole_text}

pub overflow_add-self : goal.overflow_add-self
overflow_add-self g c = omega (arith, made-fits _ _ _ _ c.self.invariant, c.len.ensures)

pub invariant_of-self : goal.invariant_of-self
invariant_of-self g c = IsKept-given _ _ _ _ c.self.invariant _ _ (omega (arith, c.len.ensures)) c.clear.ensures.items

pub overflow_add-result : goal.overflow_add-result
overflow_add-result g c = omega (arith, made-fits _ _ _ _ c.self.invariant, c.in-Err.ensures.err.0, ap length c.deref.ensures.value)

pub returns-in-Ok-clause-text : goal.returns-in-Ok-clause-text
returns-in-Ok-clause-text g c start taken =
    let Begins : TextBuffer → Type 0 = λ s. Appends start (g.S.Sink.taken c.args.sink.now) (take s.given (whole_text s.subject)) in
    let Ends : TextBuffer → Type 0 = λ s. Appends start (g.S.Sink.taken c.write_whole.new.sink) (take (c.self.inside.given + c.len.result) (whole_text s.subject)) in
    subst Ends c.self.view_is
    (Appends-given _ _ _ _ c.self.invariant start _ _ _ (omega (arith, c.len.ensures)) (subst Begins (sym c.self.view_is) taken)
    (subst (Appends (g.S.Sink.taken c.args.sink.now) (g.S.Sink.taken c.write_whole.new.sink)) c.deref.ensures.value c.in-Ok.ensures.ok))

pub returns-in-Err-clause-fault : goal.returns-in-Err-clause-fault
returns-in-Err-clause-fault g c start taken =
    let Begins : TextBuffer → Type 0 = λ s. Appends start (g.S.Sink.taken c.args.sink.now) (take s.given (whole_text s.subject)) in
    let IsCut : TextBuffer → Type 0 = λ s. IsCutOff (whole_text s.subject) start (g.S.Sink.taken c.write_whole.new.sink) (g.S.Sink.failures c.args.sink.now) (g.S.Sink.failures c.write_whole.new.sink) (c.self.inside.given + c.in-Err.count) in
    let Takes : List ℕ → Type 0 = λ text. Appends (g.S.Sink.taken c.args.sink.now) (g.S.Sink.taken c.write_whole.new.sink) (take c.in-Err.count text) in
    let end = c.in-Err.ensures.err in
    subst IsCut c.self.view_is
    (IsCutOff-given _ _ _ _ c.self.invariant start _ _ _ _ c.in-Err.count (omega (arith, end.0, ap length c.deref.ensures.value)) (subst Begins (sym c.self.view_is) taken)
    (subst Takes c.deref.ensures.value end.1) c.in-Err.ensures.failed)
