use Rattle.std.proofs.Common.{◌≡◌, ◌-◌, ◌<◌, [], Vec, Global, length, sym, ap, ◌∙◌, arith}
use Rattle.std.proofs.lemmas.Bool.{eqb-true}
use Rattle.std.proofs.lemmas.List.{get_or-map, nil_from_length}
use Rattle.cmb_wheel.specs.declared.event.LevelEvent.{LevelEvent}
use Rattle.cmb_wheel.proofs.DayFacts.{lists_of, lists-swap}
use Rattle.cmb_wheel.proofs.days.give_room.Goals as goal

pub returns-then-is_empty : goal.returns-then-is_empty
returns-then-is_empty c =
    let past : c.args.next - 1 < length c.args.days.now = omega (arith, c.requires.later, c.requires.day, c.if-next-gt0.true) in
    let count : length c.index-days-day.result.items ≡ 0 =
    omega (arith, eqb-true _ _ (sym c.if-is_empty.ensures), ap (λ (list : Vec LevelEvent Global). list.len) c.index-days-day.is, c.index-days-day.result.ok) in
    let empty : c.index-days-day.result.items ≡ [] = nil_from_length c.index-days-day.result.items count in
    ap lists_of c.swap.ensures.after
    ∙ lists-swap c.args.days.now (c.args.next - 1) c.args.day c.index-days-day.result past c.requires.day
    (nil_from_length _ (c.requires.past (c.args.next - 1) (omega (arith, c.if-next-gt0.true))))
    (get_or-map (λ list. list.items) c.args.days.now c.args.day c.index-days-day.result [] c.requires.day ∙ ap (λ list. list.items) (sym c.index-days-day.is) ∙ empty)
