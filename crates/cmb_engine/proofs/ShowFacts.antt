-- What is told of a slot in a window is what it shows.
use Rattle.std.proofs.Common.{◌≡◌, ℕ, zero, suc, ◌+◌, ◌-◌, ◌<◌, ◌≤◌, ◌⊎◌, inl, inr, Bool, true, false, ◌&&◌, ◌==◌, List, [], ◌∷◌, length, get_or, refl, sym, ap, ap₂, ◌∙◌, arith}
use Rattle.std.specs.Prelude.{nat_le, Contains, if◌then◌else◌}
use Rattle.std.proofs.lemmas.Bool.{cases_lt, cases_eq, cases_Bool, ne_eqb, eq-eqb, eqb-true, leb-true, le-leb, lt-leb, and_parts, and_from, and_left, and_right}
use Rattle.std.proofs.lemmas.List.Elements.{Contains-get_or, Contains-append_right, Contains-append_cases}
use Rattle.cmb_wave.specs.declared.level.Level.{Level}
use Rattle.cmb_wheel.specs.Calendars.{AreInOrder}
use Rattle.cmb_wheel.specs.declared.event.LevelEvent.{LevelEvent}
use Rattle.cmb_engine.specs.Inner.Cells.{Cell, is_made}
use Rattle.cmb_engine.specs.Inner.Tells.{told_level, IsTold, AreOfWindow}

first-among : (event : LevelEvent) (tells : List LevelEvent) → Contains (event ∷ tells) event
first-among event tells = Contains-get_or (event ∷ tells) 0 event (omega arith)

later-among : (event : LevelEvent) (tells : List LevelEvent) (other : LevelEvent) → Contains tells other → Contains (event ∷ tells) other
later-among event tells other among = Contains-append_right (event ∷ []) tells other among

none-among : (event : LevelEvent) → Contains [] event → ⊥
none-among event among = omega (arith, among.1)

-- a slot has a level that it had, if what is told of it up to a tick says nothing else
pub told-same : (tells : List LevelEvent) (slot tick : ℕ) (level held : Level) → ((event : LevelEvent) → Contains tells event → event.slot ≡ slot → event.tick ≤ tick → event.level ≡ level) → held ≡ level
    → told_level tells slot held tick ≡ level
told-same [] slot tick level held says is = is
told-same (event ∷ tells) slot tick level held says is =
    told-same tells slot tick level (if event.slot == slot && nat_le event.tick tick then event.level else held) (λ other among. says other (later-among event tells other among))
    (go (cases_Bool (event.slot == slot && nat_le event.tick tick)))
  where
    go : ((event.slot == slot && nat_le event.tick tick) ≡ true) ⊎ ((event.slot == slot && nat_le event.tick tick) ≡ false)
        → (if event.slot == slot && nat_le event.tick tick then event.level else held) ≡ level
    go (inl a) =
        let parts = and_parts (event.slot == slot) (nat_le event.tick tick) a in
        rw a (says event (first-among event tells) (eqb-true event.slot slot parts.0) (leb-true event.tick tick parts.1))
    go (inr a) = rw a is

-- so it has that level where nothing is told of it
pub told-keeps : (tells : List LevelEvent) (slot tick : ℕ) (held : Level) → ((event : LevelEvent) → Contains tells event → event.slot ≡ slot → event.tick ≤ tick → ⊥) → told_level tells slot held tick ≡ held
told-keeps tells slot tick held none = told-same tells slot tick held held (λ event among e l. absurd (none event among e l)) refl

-- what one tell does at a tick it did at the tick before, but where it is of that tick
one-step : (event : LevelEvent) (slot tick : ℕ) (held early : Level) → 1 ≤ tick → held ≡ early → (event.slot ≡ slot → event.tick ≡ tick → ⊥)
    → (if event.slot == slot && nat_le event.tick tick then event.level else held) ≡ (if event.slot == slot && nat_le event.tick (tick - 1) then event.level else early)
one-step event slot tick held early begun same other = go (cases_eq event.slot slot) (cases_lt event.tick tick)
  where
    go : (event.slot ≡ slot) ⊎ (event.slot ≡ slot → ⊥) → (event.tick < tick) ⊎ (tick ≤ event.tick)
        → (if event.slot == slot && nat_le event.tick tick then event.level else held) ≡ (if event.slot == slot && nat_le event.tick (tick - 1) then event.level else early)
    go (inl e) (inl l) =
        let now : (event.slot == slot && nat_le event.tick tick) ≡ true = and_from _ _ (eq-eqb event.slot slot e) (le-leb event.tick tick (omega arith)) in
        let before : (event.slot == slot && nat_le event.tick (tick - 1)) ≡ true = and_from _ _ (eq-eqb event.slot slot e) (le-leb event.tick (tick - 1) (omega arith)) in
        rw (now, before) refl
    go (inl e) (inr l) =
        let now : (event.slot == slot && nat_le event.tick tick) ≡ false = and_right (event.slot == slot) _ (lt-leb event.tick tick (omega (arith, other e))) in
        let before : (event.slot == slot && nat_le event.tick (tick - 1)) ≡ false = and_right (event.slot == slot) _ (lt-leb event.tick (tick - 1) (omega arith)) in
        rw (now, before) same
    go (inr e) _ =
        let now : (event.slot == slot && nat_le event.tick tick) ≡ false = and_left _ (nat_le event.tick tick) (ne_eqb event.slot slot e) in
        let before : (event.slot == slot && nat_le event.tick (tick - 1)) ≡ false = and_left _ (nat_le event.tick (tick - 1)) (ne_eqb event.slot slot e) in
        rw (now, before) same

abbrev IsNoneAt : List LevelEvent → ℕ → ℕ → Type 0
IsNoneAt tells slot tick = (event : LevelEvent) → Contains tells event → event.slot ≡ slot → event.tick ≡ tick → ⊥

-- at a tick a slot has the level that is told of it there, or no tell is of that tick, and it has what it had
abbrev IsStep : List LevelEvent → ℕ → ℕ → Level → Level → Level → Type 0
IsStep tells slot tick level held early =
    (told_level tells slot held tick ≡ level) ⊎ (IsNoneAt tells slot tick × (told_level tells slot held tick ≡ told_level tells slot early (tick - 1)))

only-among : (event other : LevelEvent) → Contains (event ∷ []) other → event ≡ other
only-among event other among = go among.0 among.1 among.2
  where
    go : (k : ℕ) → k < length (event ∷ []) → get_or (event ∷ []) k other ≡ other → event ≡ other
    go zero l e = e
    go (suc k) l e = absurd (omega arith)

step-more : (event : LevelEvent) (tells : List LevelEvent) (slot tick : ℕ) (level held early : Level) → (event.slot ≡ slot → event.tick ≡ tick → ⊥)
    → IsStep tells slot tick level (if event.slot == slot && nat_le event.tick tick then event.level else held) (if event.slot == slot && nat_le event.tick (tick - 1) then event.level else early)
    → IsStep (event ∷ tells) slot tick level held early
step-more event tells slot tick level held early other (inl e) = inl e
step-more event tells slot tick level held early other (inr none) = inr (λ later among e k. go later e k (Contains-append_cases (event ∷ []) tells later among), none.1)
  where
    go : (later : LevelEvent) → later.slot ≡ slot → later.tick ≡ tick → Contains (event ∷ []) later ⊎ Contains tells later → ⊥
    go later e k (inl among) = let is : event ≡ later = only-among event later among in other (ap (λ (t : LevelEvent). t.slot) is ∙ e) (ap (λ (t : LevelEvent). t.tick) is ∙ k)
    go later e k (inr among) = none.0 later among e k

told-step : (tells : List LevelEvent) (slot tick : ℕ) (level held early : Level) → 1 ≤ tick → AreInOrder tells
    → ((event : LevelEvent) → Contains tells event → event.slot ≡ slot → event.tick ≡ tick → event.level ≡ level) → held ≡ early → IsStep tells slot tick level held early
told-step [] slot tick level held early begun order says same = inr (λ event among. absurd (none-among event among), same)
told-step (event ∷ tells) slot tick level held early begun order says same =
    go (cases_eq event.slot slot) (cases_eq event.tick tick)
    (λ other. step-more event tells slot tick level held early other
    (told-step tells slot tick level (if event.slot == slot && nat_le event.tick tick then event.level else held) (if event.slot == slot && nat_le event.tick (tick - 1) then event.level else early)
    begun order.1 (λ later among. says later (later-among event tells later among)) (one-step event slot tick held early begun same other)))
  where
    here : event.slot ≡ slot → event.tick ≡ tick → told_level (event ∷ tells) slot held tick ≡ level
    here e k =
        let now : (event.slot == slot && nat_le event.tick tick) ≡ true = and_from _ _ (eq-eqb event.slot slot e) (le-leb event.tick tick (omega arith)) in
        told-same tells slot tick level (if event.slot == slot && nat_le event.tick tick then event.level else held)
        (λ other among is l. says other (later-among event tells other among) is (omega (arith, order.0 other among)))
        (rw now (says event (first-among event tells) e k))

    go : (event.slot ≡ slot) ⊎ (event.slot ≡ slot → ⊥) → (event.tick ≡ tick) ⊎ (event.tick ≡ tick → ⊥) → ((event.slot ≡ slot → event.tick ≡ tick → ⊥) → IsStep (event ∷ tells) slot tick level held early)
        → IsStep (event ∷ tells) slot tick level held early
    go (inl e) (inl k) rest = inl (here e k)
    go (inl e) (inr k) rest = rest (λ a b. k b)
    go (inr e) _ rest = rest (λ a b. e a)

module _ (trace : ℕ → ℕ → Level) (cells : ℕ → Cell) (gives : ℕ → Bool) (count from upto : ℕ) (tells : List LevelEvent) (slot : ℕ) (window : AreOfWindow trace cells gives count from upto tells)
    (begun : 1 ≤ from) (inside : slot < count) (told : is_made (cells slot) ≡ false) (other : gives slot ≡ false) where
  shows-before : (tick : ℕ) → tick ≡ from - 1 → told_level tells slot (trace slot (from - 1)) tick ≡ trace slot tick
  shows-before tick is =
      told-same tells slot tick (trace slot tick) (trace slot (from - 1)) (λ event among e l. absurd (omega (arith, (window.right event among).1))) (ap (trace slot) (sym is))

  shows-next : (tick : ℕ) → told_level tells slot (trace slot (from - 1)) tick ≡ trace slot tick
      → IsStep tells slot (suc tick) (trace slot (suc tick)) (trace slot (from - 1)) (trace slot (from - 1)) → IsTold trace tells slot (suc tick)
      → told_level tells slot (trace slot (from - 1)) (suc tick) ≡ trace slot (suc tick)
  shows-next tick so_far (inl e) _ = e
  shows-next tick so_far (inr none) (inl e) =
      let before : suc tick - 1 ≡ tick = omega arith in
      none.1 ∙ ap (told_level tells slot (trace slot (from - 1))) before ∙ so_far ∙ ap (trace slot) (sym before) ∙ e
  shows-next tick so_far (inr none) (inr among) = absurd (none.0 (record { tick = suc tick; slot = slot; level = trace slot (suc tick) }) among refl refl)

  shows-at : (tick : ℕ) → from ≤ tick + 1 → tick < upto → told_level tells slot (trace slot (from - 1)) tick ≡ trace slot tick
  shows-at zero late small = shows-before zero (omega arith)
  shows-at (suc tick) late small = go (cases_lt (suc tick) from) (λ l. shows-at tick (omega arith) (omega arith))
    where
      go : (suc tick < from) ⊎ (from ≤ suc tick) → (from ≤ suc tick → told_level tells slot (trace slot (from - 1)) tick ≡ trace slot tick)
          → told_level tells slot (trace slot (from - 1)) (suc tick) ≡ trace slot (suc tick)
      go (inl l) so_far = shows-before (suc tick) (omega arith)
      go (inr l) so_far =
          shows-next tick (so_far l)
          (told-step tells slot (suc tick) (trace slot (suc tick)) (trace slot (from - 1)) (trace slot (from - 1)) (omega arith) window.order
          (λ event among e t. (window.right event among).0.level ∙ ap₂ trace e t) refl)
          (window.all slot (suc tick) inside told other l small)

  -- what is told of a slot in a window is what it shows
  pub told-shows : (tick : ℕ) → from ≤ tick → tick < upto → told_level tells slot (trace slot (from - 1)) tick ≡ trace slot tick
  told-shows tick late small = shows-at tick (omega arith) small
