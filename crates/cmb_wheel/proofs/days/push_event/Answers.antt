use Rattle.std.proofs.Common.{◌<◌, ◌++◌, [], ◌∷◌, List, length, get_or, set, sym, ap, ◌∙◌, arith}
use Rattle.std.proofs.lemmas.List.{get_or-map, map-set, set-get_or}
use Rattle.std.proofs.lemmas.Result.{err_from_is_err_and}
use Rattle.cmb_wheel.specs.declared.event.LevelEvent.{LevelEvent}
use Rattle.cmb_wheel.proofs.DayFacts.{lists_of}
use Rattle.cmb_wheel.proofs.days.push_event.Goals as goal

pub returns-clause-added : goal.returns-clause-added
returns-clause-added c =
    let days = c.give_room.new.days in
    let inside : c.args.day < length days = omega (arith, c.requires.day) in
    let read = get_or-map (λ list. list.items) days c.args.day c.index-days-day.result [] inside in
    map-set (λ list. list.items) days c.args.day c.push.new.self
    ∙ ap (λ (list : List LevelEvent). set (lists_of days) c.args.day list) (c.in_ok-push.ensures.items ∙ ap (λ (list : List LevelEvent). list ++ c.args.event ∷ []) (sym read))
    ∙ ap (λ (lists : List (List LevelEvent)). set lists c.args.day (get_or lists c.args.day [] ++ c.args.event ∷ [])) c.give_room.ensures

pub returns-in_err-push-clause-failed : goal.returns-in_err-push-clause-failed
returns-in_err-push-clause-failed c =
    let p = err_from_is_err_and c.from_residual.result c.from_residual.ensures.1 in
    let days = c.give_room.new.days in
    let inside : c.args.day < length days = omega (arith, c.requires.day) in
    let read = get_or-map (λ list. list.items) days c.args.day c.index-days-day.result [] inside in
    rw p.1
    (map-set (λ list. list.items) days c.args.day c.push.new.self
    ∙ ap (λ (list : List LevelEvent). set (lists_of days) c.args.day list) (c.in_err-push.ensures.items ∙ sym read)
    ∙ set-get_or (lists_of days) c.args.day []
    ∙ c.give_room.ensures)
