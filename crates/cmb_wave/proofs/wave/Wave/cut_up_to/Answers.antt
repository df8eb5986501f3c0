use Rattle.std.proofs.Common.{◌≡◌, ◌≤◌, ◌<◌, drop, arith, sym, ap, ◌∙◌}
use Rattle.cmb_wave.specs.Wave.{Wave}
use Rattle.cmb_wave.proofs.Lists.{part_of_trace, trace_from, trace_widen}
use Rattle.cmb_wave.proofs.wave.Wave.cut_up_to.Goals as goal

pub of_trace-requires : goal.of_trace-requires
of_trace-requires c =
    let kept : c.changes.result.now ≡ drop c.self.inside.forgotten c.self.inside.changes.items = c.changes.ensures.changes ∙ sym (ap (λ (w : Wave). w.changes) c.self.view_is) in
    let within : c.self.inside.base ≤ c.args.from = grind arith in
    let later : c.args.from < c.args.upto = grind arith in
    let known : c.args.from ≤ c.args.upto = omega arith in
    let clock : c.self.inside.clock ≤ c.args.upto = grind arith in
    rw (c.in_ok-changes.ensures.items, c.since.ensures, kept)
    (part_of_trace _ _ _ _ later (trace_from _ _ _ _ _ within known (trace_widen _ _ _ _ _ clock c.self.invariant.trace)))
