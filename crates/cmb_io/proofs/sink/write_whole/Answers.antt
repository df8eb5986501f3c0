use Rattle.std.proofs.Common.{rules, ◌+◌, ◌∙◌, ap, add-zero}
use Rattle.cmb_io.proofs.Written.{Appends-more, write_failures-some}
use Rattle.cmb_io.proofs.sink.write_whole.Goals as goal

pub loop-done-preserved : goal.loop-done-preserved
loop-done-preserved g c =
    let t = c.in-Ok.count-test.1 in
    let f = c.in-Ok.ensures.failures in (
      f ∙ ap (λ n. g.S.Sink.failures c.loop-done.sink + n) (write_failures-some c.in-Ok.count _ t) ∙ add-zero _ ∙ c.loop-done.invariant.0,
      Appends-more _ _ _ c.args.text.now c.loop-done.done c.in-Ok.count c.loop-done.invariant.1 c.in-Ok.ensures.bytes,
      search rules,
    )
