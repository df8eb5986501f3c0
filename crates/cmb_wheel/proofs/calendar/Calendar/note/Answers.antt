use Rattle.std.proofs.Common.{◌≡◌, ◌≤◌, ◌/◌, ◌++◌, [], ◌∷◌, List, Vec, Global, length, get_or, set, sym, subst, ap, ◌∙◌, arith}
use Rattle.std.specs.Vec.{with_items}
use Rattle.std.proofs.lemmas.List.{with_items_is}
use Rattle.cmb_wheel.specs.Calendars.{Calendar, Notes}
use Rattle.cmb_wheel.specs.Inner.Days.{tells_of}
use Rattle.cmb_wheel.specs.declared.event.LevelEvent.{LevelEvent}
use Rattle.cmb_wheel.proofs.DayFacts.{lists_of, days-more, tells-more}
use Rattle.cmb_wheel.proofs.calendar.Calendar.note.Goals as goal

module _ (c : goal.In_ok-push_event) where
  written : lists_of (with_items c.self.inside.days c.push_event.new.days).items
      ≡ set (lists_of c.self.inside.days.items) (c.args.event.tick / 64)
      (get_or (lists_of c.self.inside.days.items) (c.args.event.tick / 64) [] ++ c.args.event ∷ [])
  written =
      ap lists_of (with_items_is c.self.inside.days c.push_event.new.days (omega (arith, ap length c.deref_mut.ensures.value)))
      ∙ c.in_ok-push_event.ensures.added
      ∙ ap (λ (days : List (Vec LevelEvent Global)). set (lists_of days) (c.args.event.tick / 64)
      (get_or (lists_of days) (c.args.event.tick / 64) [] ++ c.args.event ∷ [])) c.deref_mut.ensures.value

  later : c.self.inside.clock ≤ c.args.event.tick
  later = subst (λ (calendar : Calendar). calendar.clock ≤ c.args.event.tick) (sym c.self.view_is) c.requires.later

pub invariant_of-self : goal.invariant_of-self
invariant_of-self c =
    days-more c.self.inside.horizon c.self.inside.clock (lists_of c.self.inside.days.items) c.self.invariant c.args.event (later c) c.if-event-self.true
    (lists_of (with_items c.self.inside.days c.push_event.new.days).items) (written c)

pub returns-in_ok-push_event-clause-notes : goal.returns-in_ok-push_event-clause-notes
returns-in_ok-push_event-clause-notes c =
    let lists : List (List LevelEvent) = lists_of (with_items c.self.inside.days c.push_event.new.days).items in
    let new : Calendar = record { horizon = c.self.inside.horizon; clock = c.self.inside.clock; tells = tells_of lists } in
    subst (λ (old : Calendar). Notes old new c.args.event) c.self.view_is
    (tells-more c.self.inside.horizon c.self.inside.clock (lists_of c.self.inside.days.items) c.self.invariant c.args.event (later c) c.if-event-self.true lists (written c))
