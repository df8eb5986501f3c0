use Rattle.std.proofs.Common.{◌≡◌, ℕ, ◌+◌, ◌++◌, [], List, get_or, sym, subst, ap, ◌∙◌, arith}
use Rattle.std.specs.Prelude.{◌↔◌, Contains}
use Rattle.std.proofs.lemmas.List.{get_or-map}
use Rattle.cmb_wheel.specs.Inner.Days.{IsEarly, early_of}
use Rattle.cmb_wheel.specs.declared.event.LevelEvent.{LevelEvent}
use Rattle.cmb_wheel.proofs.DayFacts.{early-more, lists_of}
use Rattle.cmb_wheel.proofs.days.collect_early.Goals as goal

pub loop-day-preserved : goal.loop-day-preserved
loop-day-preserved c =
    let days = c.args.days.now in
    let day = c.loop-day.day in
    let list : c.deref.result.now ≡ get_or (lists_of days) day [] =
    c.deref.ensures.value ∙ ap (λ list. list.items) c.index-days-day.is
    ∙ sym (get_or-map (λ list. list.items) days day c.index-days-day.result [] (omega (arith, c.loop-day-test.true, c.requires.within))) in
    let pushed : c.push_early.new.taken.items ≡ c.loop-day.taken.items ++ early_of c.args.upto (get_or (lists_of days) day []) =
    c.in_ok-push_early.ensures ∙ ap (λ (list : List LevelEvent). c.loop-day.taken.items ++ early_of c.args.upto list) list in
    λ event. subst (λ (taken : List LevelEvent). Contains taken event ↔ IsEarly (lists_of days) c.args.first (day + 1) c.args.upto event) (sym pushed)
    (early-more (lists_of days) c.args.first c.args.upto day c.loop-day.taken.items (omega (arith, c.loop-day.auto.day)) c.loop-day.invariant event)

pub returns : goal.returns
returns c =
    let over : c.loop-day.day ≡ c.args.end = omega (arith, c.loop-day-test.false, c.loop-day.auto.day-end, c.requires.order) in
    λ event. subst (λ (end : ℕ). Contains c.loop-day.taken.items event ↔ IsEarly (lists_of c.args.days.now) c.args.first end c.args.upto event) over (c.loop-day.invariant event)
