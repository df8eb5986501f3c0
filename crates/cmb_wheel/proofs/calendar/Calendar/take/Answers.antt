use Rattle.std.proofs.Common.{◌≡◌, ℕ, ◌+◌, ◌/◌, ◌<◌, ◌≤◌, ◌↔◌, List, Vec, Global, length, refl, sym, subst, ap, ◌∙◌, arith}
use Rattle.std.specs.List.{Contains}
use Rattle.std.specs.Vec.{with_items}
use Rattle.std.proofs.lemmas.List.{length-map, with_items_is}
use Rattle.cmb_wheel.specs.Calendars.{Calendar, Takes}
use Rattle.cmb_wheel.specs.Inner.Days.{Clears, IsEarly, tells_of}
use Rattle.cmb_wheel.specs.declared.event.LevelEvent.{LevelEvent}
use Rattle.cmb_wheel.proofs.DayFacts.{lists_of, days-less, tells-early, tells-late}
use Rattle.cmb_wheel.proofs.calendar.Calendar.take.Goals as goal

same-length : (old new : List (Vec LevelEvent Global)) → length (lists_of new) ≡ length (lists_of old) → length new ≡ length old
same-length old new e = sym (length-map new (λ (list : Vec LevelEvent Global). list.items)) ∙ e ∙ length-map old (λ (list : Vec LevelEvent Global). list.items)

-- the lists of days that were written back
cleared : (days : Vec (Vec LevelEvent Global) Global) (old new : List (Vec LevelEvent Global)) (first end upto : ℕ) → old ≡ days.items → Clears first end upto (lists_of old) (lists_of new)
    → Clears first end upto (lists_of days.items) (lists_of (with_items days new).items)
cleared days old new first end upto same clears =
    let count : length new ≡ days.len = omega (arith, same-length old new clears.len, ap length same, days.ok) in
    let back : (with_items days new).items ≡ new = with_items_is days new count in
    subst (λ (items : List (Vec LevelEvent Global)). Clears first end upto (lists_of days.items) (lists_of items)) (sym back)
    (subst (λ (items : List (Vec LevelEvent Global)). Clears first end upto (lists_of items) (lists_of new)) same clears)

pub invariant_of-self : goal.invariant_of-self
invariant_of-self c =
    let within : c.args.upto ≤ c.self.inside.horizon = subst (λ (calendar : Calendar). c.args.upto ≤ calendar.horizon) (sym c.self.view_is) c.requires.within in
    let later : c.self.inside.clock ≤ c.args.upto = subst (λ (calendar : Calendar). calendar.clock ≤ c.args.upto) (sym c.self.view_is) c.requires.later in
    days-less c.self.inside.horizon c.self.inside.clock (lists_of c.self.inside.days.items) c.self.invariant c.args.upto later within
    (lists_of (with_items c.self.inside.days c.remove_early.new.days).items)
    (cleared c.self.inside.days c.deref_mut.result.now c.remove_early.new.days _ _ c.args.upto c.deref_mut.ensures.value c.remove_early.ensures)

pub returns-clause-takes : goal.returns-clause-takes
returns-clause-takes c =
    let horizon = c.self.inside.horizon in
    let clock = c.self.inside.clock in
    let upto = c.args.upto in
    let within : upto ≤ horizon = subst (λ (calendar : Calendar). upto ≤ calendar.horizon) (sym c.self.view_is) c.requires.within in
    let later : clock ≤ upto = subst (λ (calendar : Calendar). calendar.clock ≤ upto) (sym c.self.view_is) c.requires.later in
    let before : List (List LevelEvent) = lists_of c.self.inside.days.items in
    let lists : List (List LevelEvent) = lists_of (with_items c.self.inside.days c.remove_early.new.days).items in
    let new : Calendar = record { horizon = horizon; clock = upto; tells = tells_of lists } in
    let clears : Clears (clock / 64) (upto / 64 + 1) upto before lists =
    cleared c.self.inside.days c.deref_mut.result.now c.remove_early.new.days _ _ upto c.deref_mut.ensures.value c.remove_early.ensures in
    let collected : (event : LevelEvent) → Contains c.collect_early.new.taken.items event ↔ IsEarly before (clock / 64) (upto / 64 + 1) upto event =
    subst (λ (days : List (Vec LevelEvent Global)). (event : LevelEvent) → Contains c.collect_early.new.taken.items event ↔ IsEarly (lists_of days) (clock / 64) (upto / 64 + 1) upto event)
    c.deref.ensures.value c.in_ok-collect_early.ensures in
    let early : (event : LevelEvent) → IsEarly before (clock / 64) (upto / 64 + 1) upto event ↔ (Contains (tells_of before) event × (event.tick < upto)) =
    λ event. tells-early horizon clock before c.self.invariant upto later within event in
    subst (λ (old : Calendar). Takes upto old new c.put_in_order.new.tells.items) c.self.view_is
    (record {
      early = λ event. (
        λ has. (early event).0 ((collected event).0 ((c.put_in_order.ensures.same event).0 has)),
        λ both. (c.put_in_order.ensures.same event).1 ((collected event).1 ((early event).1 both)),
      );
      late = λ event. tells-late horizon clock before c.self.invariant upto later within lists clears event;
      clock = refl;
      horizon = refl;
    })
