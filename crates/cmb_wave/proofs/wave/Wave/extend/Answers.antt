use Rattle.std.proofs.Common.{◌≡◌, ◌+◌, ◌≤◌, length, length-append, arith, sym, ◌∙◌, ap, subst}
use Rattle.cmb_wave.specs.Waveform.{IsTrace, last_level}
use Rattle.cmb_wave.specs.Wave.{Wave}
use Rattle.cmb_wave.proofs.Lists.{extended_trace, length_span}
use Rattle.cmb_wave.proofs.wave.Wave.extend.Goals as goal

pub invariant_of-self-2 : goal.invariant_of-self-2
invariant_of-self-2 c =
    let i = c.self.inside in
    let P : Wave → Type 0 = λ w. IsTrace (last_level w.kept w.changes) w.clock c.args.changes.now c.args.to in
    let more = subst P (sym c.self.view_is) c.requires in
    let many : length c.append.new.list.items ≡ length i.changes.items + length c.args.changes.now = ap length c.in_ok-append.ensures.ok ∙ length-append i.changes.items c.args.changes.now in
    let span : length c.args.changes.now + i.clock ≤ c.args.to = length_span _ i.clock c.args.to c.args.changes.now more in
    record {
      trace = rw c.in_ok-append.ensures.ok (extended_trace i.kept i.base i.clock c.args.to i.forgotten i.changes.items c.args.changes.now c.self.invariant.head c.self.invariant.trace more);
      head = omega (arith, many, c.self.invariant.head);
      few = omega (arith, span, c.self.invariant.few);
      first = c.self.invariant.first;
      small = omega arith;
    }
