use Rattle.std.proofs.Common.{rules, ◌≡◌, ℕ, ◌<◌, [], List, Vec, Global, length, get_or, set, sym, subst, ap, ◌∙◌, arith}
use Rattle.std.specs.Prelude.{nat_le}
use Rattle.std.proofs.lemmas.Fn.{filter_same}
use Rattle.std.proofs.lemmas.List.{get_or-map, length-map, map-set}
use Rattle.cmb_wheel.specs.Inner.Days.{Clears, late_of}
use Rattle.cmb_wheel.specs.declared.event.LevelEvent.{LevelEvent}
use Rattle.cmb_wheel.proofs.DayFacts.{clears-more, lists_of}
use Rattle.cmb_wheel.proofs.days.remove_early.Goals as goal

pub loop-day-preserved : goal.loop-day-preserved
loop-day-preserved c =
    let days = c.loop-day.days in
    let day = c.loop-day.day in
    let before : List (List LevelEvent) = lists_of c.args.days.now in
    let inside : day < length before = omega (arith, c.loop-day-test.true, c.requires.within, length-map c.args.days.now (λ (list : Vec LevelEvent Global). list.items)) in
    let list : (get_or days day c.index-days-day.result).items ≡ get_or (lists_of days) day [] =
    sym (get_or-map (λ list. list.items) days day c.index-days-day.result [] (omega (arith, c.loop-day-test.true, c.requires.within, c.loop-day.auto.days))) in
    let left : c.retain.new.self.items ≡ late_of c.args.upto (get_or (lists_of days) day []) =
    filter_same _ (λ event. nat_le c.args.upto event.tick) _ (λ a r q k. search rules) _ _ c.retain.ensures.filtered ∙ ap (λ (list : List LevelEvent). late_of c.args.upto list) list in
    clears-more before c.args.first c.args.upto day (lists_of days) _ (omega (arith, c.loop-day.auto.day)) inside c.loop-day.invariant
    (map-set (λ list. list.items) days day c.retain.new.self ∙ ap (λ (list : List LevelEvent). set (lists_of days) day list) left)

pub returns : goal.returns
returns c =
    let over : c.loop-day.day ≡ c.args.end = omega (arith, c.loop-day-test.false, c.loop-day.auto.day-end, c.requires.order) in
    subst (λ (end : ℕ). Clears c.args.first end c.args.upto (lists_of c.args.days.now) (lists_of c.loop-day.days)) over c.loop-day.invariant
