use Rattle.std.proofs.Common.{◌≡◌, ◌≤◌, drop, arith, sym, ap, ◌∙◌}
use Rattle.std.proofs.lemmas.List.{length-drop}
use Rattle.cmb_wave.specs.Waveform.{below}
use Rattle.cmb_wave.specs.Wave.{Wave}
use Rattle.cmb_wave.proofs.Lists.{forgotten_trace, forgotten_first, below_length}
use Rattle.cmb_wave.proofs.wave.Wave.forget.Goals as goal

pub invariant_of-self : goal.invariant_of-self
invariant_of-self c =
    let list = drop c.self.inside.forgotten c.self.inside.changes.items in
    let kept : c.changes-changes.result.now ≡ list = c.changes-changes.ensures.changes ∙ sym (ap (λ (w : Wave). w.changes) c.self.view_is) in
    let gone : c.count_below-below.result ≡ below c.args.upto list = c.count_below-below.ensures.count ∙ ap (below c.args.upto) kept in
    let within : c.self.inside.base ≤ c.args.upto = grind arith in
    let known : c.args.upto ≤ c.self.inside.clock = grind arith in
    record {
      trace = rw (c.level_after-level.ensures, kept) (forgotten_trace _ _ _ _ _ _ _ within known gone c.self.invariant.trace);
      head = omega (arith, gone, below_length c.args.upto list, length-drop c.self.inside.forgotten c.self.inside.changes.items, c.self.invariant.head);
      few = omega (arith, c.self.invariant.few);
      first = λ start. rw (c.level_after-level.ensures, kept) (forgotten_first _ _ _ _ _ within gone c.self.invariant.first start);
      small = c.self.invariant.small;
    }
