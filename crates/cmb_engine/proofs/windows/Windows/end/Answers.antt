use Rattle.std.proofs.Common.{◌≡◌, ◌+◌, ◌<◌, min, ℕ, List, take, get_or, sym, ap, subst, ◌∙◌, arith}
use Rattle.std.specs.Prelude.{All}
use Rattle.std.proofs.lemmas.List.{take_more}
use Rattle.cmb_engine.specs.Inner.Ends.{IsPaced}
use Rattle.cmb_engine.specs.Windows.{arrival_from, end_by}
use Rattle.cmb_engine.specs.declared.windows.Pace.{Pace}
use Rattle.cmb_engine.proofs.EndFacts.{end_by-push}
use Rattle.cmb_engine.proofs.windows.Windows.end.Goals as goal

none : Pace
none = record { first = 0; period = 0; lead = 0 }

pub loop-pace-preserved : goal.loop-pace-preserved
unfolding none
loop-pace-preserved c =
    let paces : List Pace = c.deref-pace-items.result.now in
    let i = c.loop-pace.pace-index in
    let last : ℕ = min (c.args.clock + c.args.self.now.width) c.args.self.now.horizon in
    let is = c.loop-pace.invariant in
    let pace : Pace = get_or paces i none in
    let next : c.min-end-in-loop-pace.result ≡ min c.loop-pace.end (arrival_from pace (c.args.clock + pace.lead)) = omega (arith, c.min-end-in-loop-pace.ensures, c.arrival_from.ensures.value) in
    let paced : IsPaced pace = subst (λ (ps : List Pace). All IsPaced ps) (sym c.deref-pace-items.ensures.value) c.self.invariant.3 i none c.loop-pace-test.true in
    let later : c.args.clock < arrival_from pace (c.args.clock + pace.lead) = omega (arith, paced.3, c.arrival_from.ensures.value, c.arrival_from.ensures.later) in
    record {
      value = next ∙ ap (λ (n : ℕ). min n (arrival_from pace (c.args.clock + pace.lead))) is.value
          ∙ sym (end_by-push (take i paces) pace c.args.clock last) ∙ ap (λ (ps : List Pace). end_by ps c.args.clock last) (sym (take_more paces i none c.loop-pace-test.true));
      later = omega (arith, next, is.later, later);
      short = omega (arith, next, is.short);
      within = omega (arith, next, is.within);
    }
