use Rattle.std.proofs.Common.{◌∙◌, ap, length, subst, sym, take}
use Rattle.std.specs.Io.KnownBytes.{Appends}
use Rattle.std.proofs.lemmas.Result.{err_from_is_err_and}
use Rattle.cmb_dump.specs.Shown.{Subject, whole_text}
use Rattle.cmb_dump_stream.proofs.StreamFacts.{Appends-whole, IsWrittenTo-part, made-whole}
use Rattle.cmb_dump_stream.proofs.text.write_rest.Goals as goal

pub returns : goal.returns
returns g c =
    let done = c.is_done.ensures.done c.loop-kept-test.false in
    let Begins : Subject → Type 0 = λ d. Appends (g.S.Sink.taken c.args.sink.now) (g.S.Sink.taken c.loop-kept.sink) (take c.loop-kept.kept.given (whole_text d)) in
    record {
      told = c.given.ensures ∙ c.in_ok-give-2.ensures.given ∙ ap length (made-whole c.args.kept.subject c.loop-kept.kept.subject c.loop-kept.kept.clock c.loop-kept.invariant.subject done);
      taken =
          Appends-whole c.args.kept.subject c.loop-kept.kept.subject c.loop-kept.kept.clock _ _ _ c.loop-kept.invariant.subject done c.in_ok-give-2.ensures.given
          (c.in_ok-give-2.ensures.text _ (subst Begins (sym c.loop-kept.invariant.subject) c.loop-kept.invariant.text));
      no_failure = c.in_ok-give-2.ensures.no_failure ∙ c.loop-kept.invariant.no_failure;
      fault = tt;
    }

pub returns-in_err-give : goal.returns-in_err-give
returns-in_err-give g c =
    let p = err_from_is_err_and c.from_residual.result c.from_residual.ensures.1 in
    let i = c.loop-kept.invariant in
    rw (p.1, p.2) (IsWrittenTo-part g.S.Sink c.args.kept.subject c.loop-kept.kept.subject c.loop-kept.kept.given _ _ _ _ i.subject i.text i.no_failure c.in_err-give.ensures.fault)

pub returns-in_err-give-2 : goal.returns-in_err-give-2
returns-in_err-give-2 g c =
    let p = err_from_is_err_and c.from_residual-in_err-give-2.result c.from_residual-in_err-give-2.ensures.1 in
    let i = c.loop-kept.invariant in
    rw (p.1, p.2) (IsWrittenTo-part g.S.Sink c.args.kept.subject c.loop-kept.kept.subject c.loop-kept.kept.given _ _ _ _ i.subject i.text i.no_failure c.in_err-give-2.ensures.fault)
