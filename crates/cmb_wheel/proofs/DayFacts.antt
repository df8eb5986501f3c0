-- The tells of all days, and what a write to a day's list makes of them.
use Rattle.std.proofs.Common.{Vec, Global, map, ◌≡◌, ℕ, zero, suc, ◌+◌, ◌/◌, ◌<◌, ◌≤◌, ◌≢◌, ◌⊎◌, ◌↔◌, inl, inr, Bool, true, false, List, [], ◌∷◌, ◌++◌, length, get_or, set, cond, refl, sym, ap, subst, ◌∙◌, arith}
use Rattle.std.specs.Prelude.{nat_le, nat_lt, replicate}
use Rattle.std.specs.List.{All, Contains, filter}
use Rattle.std.proofs.lemmas.Bool.{cases_lt, cases_eq, le-leb, leb-true, lt-ltb, ltb-true}
use Rattle.std.specs.List.{swap}
use Rattle.std.proofs.lemmas.List.Edits.{swap_is}
use Rattle.std.proofs.lemmas.List.{get_or-map, map-set, set-get_or, get_or-set_same, get_or-set_other, length-set}
use Rattle.std.proofs.lemmas.List.Elements.{All-filter, All-push, All-contains, Contains-append_left, Contains-append_right, Contains-append_cases, Contains-push, Contains-push_cases}
use Rattle.cmb_wheel.specs.Inner.Days.{AreDays, Clears, IsEarly, early_of, late_of, tells_of}
use Rattle.cmb_wheel.specs.declared.event.LevelEvent.{LevelEvent}

pub none-nil : (event : LevelEvent) → Contains [] event → ⊥
none-nil event has = omega (arith, has.1)

-- what stands in a day's list is among the tells of all days
pub tells-found : (lists : List (List LevelEvent)) (place : ℕ) (event : LevelEvent) → Contains (get_or lists place []) event → Contains (tells_of lists) event
tells-found [] place event has = has
tells-found (list ∷ lists) zero event has = Contains-append_left list (tells_of lists) event has
tells-found (list ∷ lists) (suc place) event has = Contains-append_right list (tells_of lists) event (tells-found lists place event has)

-- a day in whose list a tell stands
abbrev pub IsFound : List (List LevelEvent) → LevelEvent → Type 0
IsFound lists event = (place : ℕ) × Contains (get_or lists place []) event

found-later : (list : List LevelEvent) (lists : List (List LevelEvent)) (event : LevelEvent) → IsFound lists event → IsFound (list ∷ lists) event
found-later list lists event found = (suc found.0, found.1)

pub tells-finds : (lists : List (List LevelEvent)) (event : LevelEvent) → Contains (tells_of lists) event → IsFound lists event
tells-finds [] event has = absurd (none-nil event has)
tells-finds (list ∷ lists) event has =
    elim (Contains-append_cases list (tells_of lists) event has) [
      | inl here ↦ (zero, here)
      | inr later ↦ found-later list lists event (tells-finds lists event later)
    ]

pub tells-none : (count : ℕ) → tells_of (replicate count []) ≡ []
tells-none zero = refl
tells-none (suc count) = tells-none count

pub lists-none : (count place : ℕ) → get_or {A = List LevelEvent} (replicate count []) place [] ≡ []
lists-none zero place = refl
lists-none (suc count) zero = refl
lists-none (suc count) (suc place) = lists-none count place

-- what stands in the lists of days
abbrev pub lists_of : List (Vec LevelEvent Global) → List (List LevelEvent)
lists_of days = map (λ (list : Vec LevelEvent Global). list.items) days

-- two empty lists may change places
pub lists-swap : (days : List (Vec LevelEvent Global)) (a b : ℕ) (d : Vec LevelEvent Global) → a < length days → b < length days → get_or (lists_of days) a [] ≡ [] → get_or (lists_of days) b [] ≡ []
    → lists_of (swap days a b) ≡ lists_of days
lists-swap days a b d first second none other =
    let items : Vec LevelEvent Global → List LevelEvent = λ list. list.items in
    let at_a : (get_or days a d).items ≡ [] = sym (get_or-map items days a d [] first) ∙ none in
    let at_b : (get_or days b d).items ≡ [] = sym (get_or-map items days b d [] second) ∙ other in
    ap lists_of (sym (swap_is days a b d first second))
    ∙ map-set items (set days a (get_or days b d)) b (get_or days a d)
    ∙ ap (λ (lists : List (List LevelEvent)). set lists b (get_or days a d).items) (map-set items days a (get_or days b d))
    ∙ ap (λ (list : List LevelEvent). set (set (lists_of days) a (get_or days b d).items) b list) (at_a ∙ sym other)
    ∙ ap (λ (list : List LevelEvent). set (set (lists_of days) a list) b (get_or (lists_of days) b [])) (at_b ∙ sym none)
    ∙ ap (λ (lists : List (List LevelEvent)). set lists b (get_or (lists_of days) b [])) (set-get_or (lists_of days) a [])
    ∙ set-get_or (lists_of days) b []

pub empty-none : (list : List LevelEvent) → ((event : LevelEvent) → Contains list event → ⊥) → length list ≡ 0
empty-none [] none = refl
empty-none (t ∷ ts) none = absurd (none t (Contains-append_left (t ∷ []) ts t (Contains-push [] t)))

-- ---- what a filter keeps

one-is : (t event : LevelEvent) → Contains (t ∷ []) event → t ≡ event
one-is t event has = go (Contains-push_cases [] t event has)
  where
    go : Contains [] event ⊎ (t ≡ event) → t ≡ event
    go (inl none) = absurd (none-nil event none)
    go (inr e) = e

kept-cases : (b : Bool) (t : LevelEvent) (rest : List LevelEvent) (event : LevelEvent) → Contains (cond b (t ∷ rest) rest) event → ((b ≡ true) × (t ≡ event)) ⊎ Contains rest event
kept-cases true t rest event has = go (Contains-append_cases (t ∷ []) rest event has)
  where
    go : Contains (t ∷ []) event ⊎ Contains rest event → ((true ≡ true) × (t ≡ event)) ⊎ Contains rest event
    go (inl here) = inl (refl, one-is t event here)
    go (inr later) = inr later
kept-cases false t rest event has = inr has

kept-here : (b : Bool) (t : LevelEvent) (rest : List LevelEvent) → b ≡ true → Contains (cond b (t ∷ rest) rest) t
kept-here b t rest e = rw e (Contains-append_left (t ∷ []) rest t (Contains-push [] t))

kept-later : (b : Bool) (t : LevelEvent) (rest : List LevelEvent) (event : LevelEvent) → Contains rest event → Contains (cond b (t ∷ rest) rest) event
kept-later true t rest event has = Contains-append_right (t ∷ []) rest event has
kept-later false t rest event has = has

filter-sound : (test : LevelEvent → Bool) (list : List LevelEvent) (event : LevelEvent) → Contains (filter test list) event → Contains list event × (test event ≡ true)
filter-sound test [] event has = absurd (none-nil event has)
filter-sound test (t ∷ ts) event has = go (kept-cases (test t) t (filter test ts) event has) (λ later. filter-sound test ts event later)
  where
    go : ((test t ≡ true) × (t ≡ event)) ⊎ Contains (filter test ts) event → (Contains (filter test ts) event → Contains ts event × (test event ≡ true))
        → Contains (t ∷ ts) event × (test event ≡ true)
    go (inl both) sound =
        (subst (λ (x : LevelEvent). Contains (t ∷ ts) x) both.1 (Contains-append_left (t ∷ []) ts t (Contains-push [] t)), subst (λ (x : LevelEvent). test x ≡ true) both.1 both.0)
    go (inr later) sound =
        let was = sound later in
        (Contains-append_right (t ∷ []) ts event was.0, was.1)

filter-keeps : (test : LevelEvent → Bool) (list : List LevelEvent) (event : LevelEvent) → test event ≡ true → Contains list event → Contains (filter test list) event
filter-keeps test [] event e has = has
filter-keeps test (t ∷ ts) event e has = go (Contains-append_cases (t ∷ []) ts event has) (λ later. filter-keeps test ts event e later)
  where
    go : Contains (t ∷ []) event ⊎ Contains ts event → (Contains ts event → Contains (filter test ts) event) → Contains (filter test (t ∷ ts)) event
    go (inl here) keeps =
        let same : t ≡ event = one-is t event here in
        subst (λ (x : LevelEvent). Contains (filter test (t ∷ ts)) x) same (kept-here (test t) t (filter test ts) (ap test same ∙ e))
    go (inr later) keeps = kept-later (test t) t (filter test ts) event (keeps later)

-- ---- days are gone through

module _ (lists : List (List LevelEvent)) (first upto : ℕ) where
  pub early-none : (event : LevelEvent) → Contains [] event ↔ IsEarly lists first first upto event
  early-none event = (λ has. absurd (none-nil event has), λ early. absurd (omega (arith, early.from, early.before)))

  -- one day more
  pub early-more : (day : ℕ) (taken : List LevelEvent) → first ≤ day → ((event : LevelEvent) → Contains taken event ↔ IsEarly lists first day upto event)
      → (event : LevelEvent) → Contains (taken ++ early_of upto (get_or lists day [])) event ↔ IsEarly lists first (day + 1) upto event
  early-more day taken from were event = (λ has. there (Contains-append_cases taken (early_of upto (get_or lists day [])) event has), λ early. back early (cases_lt early.day day))
    where
      there : Contains taken event ⊎ Contains (early_of upto (get_or lists day [])) event → IsEarly lists first (day + 1) upto event
      there (inl has) =
          let was = (were event).0 has in
          record { day = was.day; from = was.from; before = omega (arith, was.before); among = was.among; early = was.early }
      there (inr has) =
          let now = filter-sound (λ t. nat_lt t.tick upto) (get_or lists day []) event has in
          record { day = day; from = from; before = omega arith; among = now.0; early = ltb-true event.tick upto now.1 }

      back : (early : IsEarly lists first (day + 1) upto event) → (early.day < day) ⊎ (day ≤ early.day) → Contains (taken ++ early_of upto (get_or lists day [])) event
      back early (inl l) =
          Contains-append_left taken (early_of upto (get_or lists day [])) event
          ((were event).1 (record { day = early.day; from = early.from; before = l; among = early.among; early = early.early }))
      back early (inr l) =
          let same : early.day ≡ day = omega (arith, early.before, l) in
          Contains-append_right taken (early_of upto (get_or lists day [])) event
          (filter-keeps (λ t. nat_lt t.tick upto) (get_or lists day []) event (lt-ltb event.tick upto early.early)
          (subst (λ (d : ℕ). Contains (get_or lists d []) event) same early.among))

  pub clears-none : Clears first first upto lists lists
  clears-none = record { len = refl; cleared = λ day from before. absurd (omega (arith, from, before)); others = λ day other. refl }

  -- one day more
  pub clears-more : (day : ℕ) (between new : List (List LevelEvent)) → first ≤ day → day < length lists → Clears first day upto lists between
      → new ≡ set between day (late_of upto (get_or between day [])) → Clears first (day + 1) upto lists new
  clears-more day between new from inside were is = record {
    len = ap length is ∙ length-set between day (late_of upto (get_or between day [])) ∙ were.len;
    cleared = λ place late before. cleared place late before (cases_eq place day);
    others = λ place other. at-other place (λ e. apart place other e) ∙ were.others place (later-still place other);
  }
    where
      apart : (place : ℕ) → (place < first) ⊎ (day + 1 ≤ place) → place ≡ day → ⊥
      apart place (inl l) e = absurd (omega (arith, l, e, from))
      apart place (inr l) e = absurd (omega (arith, l, e))

      later-still : (place : ℕ) → (place < first) ⊎ (day + 1 ≤ place) → (place < first) ⊎ (day ≤ place)
      later-still place (inl l) = inl l
      later-still place (inr l) = inr (omega (arith, l))

      at-other : (place : ℕ) → (place ≡ day → ⊥) → get_or new place [] ≡ get_or between place []
      at-other place other = ap (λ (all : List (List LevelEvent)). get_or all place []) is ∙ get_or-set_other between day place (late_of upto (get_or between day [])) [] other

      cleared : (place : ℕ) → first ≤ place → place < day + 1 → (place ≡ day) ⊎ (place ≡ day → ⊥) → get_or new place [] ≡ late_of upto (get_or lists place [])
      cleared place late before (inl e) =
          ap (λ (p : ℕ). get_or new p []) e
          ∙ ap (λ (all : List (List LevelEvent)). get_or all day []) is
          ∙ get_or-set_same between day (late_of upto (get_or between day [])) [] (omega (arith, inside, were.len))
          ∙ ap (λ (list : List LevelEvent). late_of upto list) (were.others day (inr (omega arith)) ∙ ap (λ (p : ℕ). get_or lists p []) (sym e))
      cleared place late before (inr ne) = at-other place ne ∙ were.cleared place late (omega (arith, before, ne))

-- ---- the days of a calendar

module _ (horizon clock : ℕ) (lists : List (List LevelEvent)) (days : AreDays horizon clock lists) where
  -- the day of a tell
  at-day : (place : ℕ) (event : LevelEvent) → Contains (get_or lists place []) event → event.tick / 64 ≡ place
  at-day place event has = All-contains (λ t. t.tick / 64 ≡ place) (get_or lists place []) event (days.placed place) has

  not-past : (place : ℕ) (event : LevelEvent) → Contains (get_or lists place []) event → clock / 64 ≤ place
  not-past place event has = go (cases_lt place (clock / 64))
    where
      go : (place < clock / 64) ⊎ (clock / 64 ≤ place) → clock / 64 ≤ place
      go (inl l) = absurd (omega (arith, days.past place l, has.1))
      go (inr l) = l

  -- a tell is added to the list of its day
  module _ (event : LevelEvent) (later : clock ≤ event.tick) (inside : event.tick < horizon) where
    pub day-inside : event.tick / 64 < length lists
    day-inside = omega (arith, inside, days.room)

    module _ (new : List (List LevelEvent)) (is : new ≡ set lists (event.tick / 64) (get_or lists (event.tick / 64) [] ++ event ∷ [])) where
      at-new : (place : ℕ) → place ≡ event.tick / 64 → get_or new place [] ≡ get_or lists place [] ++ event ∷ []
      at-new place e =
          ap (λ (all : List (List LevelEvent)). get_or all place []) is
          ∙ ap (λ (p : ℕ). get_or (set lists (event.tick / 64) (get_or lists (event.tick / 64) [] ++ event ∷ [])) p []) e
          ∙ get_or-set_same lists (event.tick / 64) (get_or lists (event.tick / 64) [] ++ event ∷ []) [] day-inside
          ∙ ap (λ (p : ℕ). get_or lists p [] ++ event ∷ []) (sym e)

      at-other : (place : ℕ) → place ≢ event.tick / 64 → get_or new place [] ≡ get_or lists place []
      at-other place other =
          ap (λ (all : List (List LevelEvent)). get_or all place []) is
          ∙ get_or-set_other lists (event.tick / 64) place (get_or lists (event.tick / 64) [] ++ event ∷ []) [] other

      pub days-more : AreDays horizon clock new
      days-more =
          record {
            short = days.short;
            within = days.within;
            room = omega (arith, days.room, ap length is, length-set lists (event.tick / 64) (get_or lists (event.tick / 64) [] ++ event ∷ []));
            placed = λ place. placed place (cases_eq place (event.tick / 64));
            past = λ place l. ap length (at-other place (λ e. omega (arith, e, later, l))) ∙ days.past place l;
          }
        where
          placed : (place : ℕ) → (place ≡ event.tick / 64) ⊎ (place ≡ event.tick / 64 → ⊥) → All (λ t. t.tick / 64 ≡ place) (get_or new place [])
          placed place (inl e) =
              subst (λ (list : List LevelEvent). All (λ t. t.tick / 64 ≡ place) list) (sym (at-new place e))
              (All-push (λ (t : LevelEvent). t.tick / 64 ≡ place) (get_or lists place []) event (days.placed place) (sym e))
          placed place (inr other) = subst (λ (list : List LevelEvent). All (λ t. t.tick / 64 ≡ place) list) (sym (at-other place other)) (days.placed place)

      pub tells-more : (other : LevelEvent) → Contains (tells_of new) other ↔ (Contains (tells_of lists) other ⊎ ((other ≡ event) × (event.tick < horizon)))
      tells-more other = (λ has. from (tells-finds new other has), to)
        where
          either : (place : ℕ) → Contains (get_or lists place []) other ⊎ (event ≡ other) → Contains (tells_of lists) other ⊎ ((other ≡ event) × (event.tick < horizon))
          either place (inl has) = inl (tells-found lists place other has)
          either place (inr e) = inr (sym e, inside)

          at : (place : ℕ) → Contains (get_or new place []) other → (place ≡ event.tick / 64) ⊎ (place ≡ event.tick / 64 → ⊥)
              → Contains (tells_of lists) other ⊎ ((other ≡ event) × (event.tick < horizon))
          at place has (inl e) = either place (Contains-push_cases (get_or lists place []) event other (subst (λ (list : List LevelEvent). Contains list other) (at-new place e) has))
          at place has (inr ne) = inl (tells-found lists place other (subst (λ (list : List LevelEvent). Contains list other) (at-other place ne) has))

          from : IsFound new other → Contains (tells_of lists) other ⊎ ((other ≡ event) × (event.tick < horizon))
          from found = at found.0 found.1 (cases_eq found.0 (event.tick / 64))

          kept : (place : ℕ) → Contains (get_or lists place []) other → (place ≡ event.tick / 64) ⊎ (place ≡ event.tick / 64 → ⊥) → Contains (tells_of new) other
          kept place has (inl e) =
              tells-found new place other
              (subst (λ (list : List LevelEvent). Contains list other) (sym (at-new place e)) (Contains-append_left (get_or lists place []) (event ∷ []) other has))
          kept place has (inr ne) = tells-found new place other (subst (λ (list : List LevelEvent). Contains list other) (sym (at-other place ne)) has)

          was : IsFound lists other → Contains (tells_of new) other
          was found = kept found.0 found.1 (cases_eq found.0 (event.tick / 64))

          to : Contains (tells_of lists) other ⊎ ((other ≡ event) × (event.tick < horizon)) → Contains (tells_of new) other
          to (inl has) = was (tells-finds lists other has)
          to (inr both) =
              subst (λ (t : LevelEvent). Contains (tells_of new) t) (sym both.0)
              (tells-found new (event.tick / 64) event
              (subst (λ (list : List LevelEvent). Contains list event) (sym (at-new (event.tick / 64) refl)) (Contains-push (get_or lists (event.tick / 64) []) event)))

  -- what is told below a tick is taken out
  module _ (upto : ℕ) (from : clock ≤ upto) (within : upto ≤ horizon) where
    pub tells-early : (event : LevelEvent) → IsEarly lists (clock / 64) (upto / 64 + 1) upto event ↔ (Contains (tells_of lists) event × (event.tick < upto))
    tells-early event = (λ early. (tells-found lists early.day event early.among, early.early), λ both. here (tells-finds lists event both.0) both.1)
      where
        here : IsFound lists event → event.tick < upto → IsEarly lists (clock / 64) (upto / 64 + 1) upto event
        here found early = record {
          day = found.0;
          from = not-past found.0 event found.1;
          before = omega (arith, at-day found.0 event found.1, early);
          among = found.1;
          early = early;
        }

    module _ (new : List (List LevelEvent)) (clears : Clears (clock / 64) (upto / 64 + 1) upto lists new) where
      -- where a day is
      abbrev IsIn : ℕ → Type 0
      IsIn place = ((clock / 64 ≤ place) × (place < upto / 64 + 1)) ⊎ ((place < clock / 64) ⊎ (upto / 64 + 1 ≤ place))

      in-days : (place : ℕ) → IsIn place
      in-days place = low (cases_lt place (clock / 64)) (cases_lt place (upto / 64 + 1))
        where
          low : (place < clock / 64) ⊎ (clock / 64 ≤ place) → (place < upto / 64 + 1) ⊎ (upto / 64 + 1 ≤ place) → IsIn place
          low (inl l) other = inr (inl l)
          low (inr l) (inl h) = inl (l, h)
          low (inr l) (inr h) = inr (inr h)

      pub days-less : AreDays horizon upto new
      days-less = record {
        short = days.short;
        within = within;
        room = omega (arith, days.room, clears.len);
        placed = λ place. placed place (in-days place);
        past = λ place l. past place l (in-days place);
      }
        where
          placed : (place : ℕ) → IsIn place → All (λ t. t.tick / 64 ≡ place) (get_or new place [])
          placed place (inl both) =
              subst (λ (list : List LevelEvent). All (λ t. t.tick / 64 ≡ place) list) (sym (clears.cleared place both.0 both.1))
              (All-filter (λ t. nat_le upto t.tick) (λ t. t.tick / 64 ≡ place) (get_or lists place []) (days.placed place))
          placed place (inr other) = subst (λ (list : List LevelEvent). All (λ t. t.tick / 64 ≡ place) list) (sym (clears.others place other)) (days.placed place)

          none : (place : ℕ) → place < upto / 64 → (event : LevelEvent) → Contains (late_of upto (get_or lists place [])) event → ⊥
          none place l event has =
              let was = filter-sound (λ t. nat_le upto t.tick) (get_or lists place []) event has in
              absurd (omega (arith, leb-true upto event.tick was.1, at-day place event was.0, l))

          past : (place : ℕ) → place < upto / 64 → IsIn place → length (get_or new place []) ≡ 0
          past place l (inl both) = ap length (clears.cleared place both.0 both.1) ∙ empty-none (late_of upto (get_or lists place [])) (none place l)
          past place l (inr (inl low)) = ap length (clears.others place (inl low)) ∙ days.past place low
          past place l (inr (inr high)) = absurd (omega (arith, l, high))

      pub tells-late : (event : LevelEvent) → Contains (tells_of new) event ↔ (Contains (tells_of lists) event × (upto ≤ event.tick))
      tells-late event = (λ has. from-new (tells-finds new event has), λ both. to-new (tells-finds lists event both.0) both.1)
        where
          at : (place : ℕ) → Contains (get_or new place []) event → IsIn place → Contains (tells_of lists) event × (upto ≤ event.tick)
          at place has (inl both) =
              let was = filter-sound (λ t. nat_le upto t.tick) (get_or lists place []) event (subst (λ (list : List LevelEvent). Contains list event) (clears.cleared place both.0 both.1) has) in
              (tells-found lists place event was.0, leb-true upto event.tick was.1)
          at place has (inr (inl low)) =
              absurd (omega (arith, days.past place low, (subst (λ (list : List LevelEvent). Contains list event) (clears.others place (inl low)) has).1))
          at place has (inr (inr high)) =
              let was = subst (λ (list : List LevelEvent). Contains list event) (clears.others place (inr high)) has in
              (tells-found lists place event was, omega (arith, at-day place event was, high))

          from-new : IsFound new event → Contains (tells_of lists) event × (upto ≤ event.tick)
          from-new found = at found.0 found.1 (in-days found.0)

          kept : (place : ℕ) → Contains (get_or lists place []) event → upto ≤ event.tick → IsIn place → Contains (get_or new place []) event
          kept place has late (inl both) =
              subst (λ (list : List LevelEvent). Contains list event) (sym (clears.cleared place both.0 both.1))
              (filter-keeps (λ t. nat_le upto t.tick) (get_or lists place []) event (le-leb upto event.tick late) has)
          kept place has late (inr other) = subst (λ (list : List LevelEvent). Contains list event) (sym (clears.others place other)) has

          to-new : IsFound lists event → upto ≤ event.tick → Contains (tells_of new) event
          to-new found late = tells-found new found.0 event (kept found.0 found.1 late (in-days found.0))
