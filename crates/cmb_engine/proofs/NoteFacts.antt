-- What a calendar has once many things are told, step by step.
use Rattle.std.proofs.Common.{◌≡◌, ℕ, ◌+◌, ◌<◌, ◌⊎◌, inl, inr, List, [], ◌∷◌, length, get_or, take, refl, sym, subst, ◌∙◌}
use Rattle.std.specs.Prelude.{Contains}
use Rattle.std.proofs.lemmas.List.{take_more}
use Rattle.std.proofs.lemmas.List.Elements.{Contains-append_left, Contains-push, Contains-push_cases}
use Rattle.cmb_wheel.specs.Calendars.{Calendar, Notes, SameTicks}
use Rattle.cmb_wheel.specs.declared.event.LevelEvent.{LevelEvent}
use Rattle.cmb_engine.specs.Inner.Lines.{NotesEach}

pub ticks-same : (calendar : Calendar) → SameTicks calendar calendar
ticks-same calendar = record { horizon = refl; clock = refl }

pub ticks-on : (old between new : Calendar) → SameTicks old between → SameTicks between new → SameTicks old new
ticks-on old between new g h = record { horizon = h.horizon ∙ g.horizon; clock = h.clock ∙ g.clock }

-- nothing is told
pub notes-none : (IsNew : LevelEvent → Type 0) (calendar : Calendar) → ((event : LevelEvent) → IsNew event → ⊥) → NotesEach IsNew calendar calendar
notes-none IsNew calendar none event = (inl, back)
  where
    back : Contains calendar.tells event ⊎ (IsNew event × (event.tick < calendar.horizon)) → Contains calendar.tells event
    back (inl h) = h
    back (inr h) = absurd (none event h.0)

-- one thing is told
pub notes-one : (old new : Calendar) (one : LevelEvent) → Notes old new one → NotesEach (λ event. event ≡ one) old new
notes-one old new one notes event = (λ h. there ((notes event).0 h), λ h. (notes event).1 (back h))
  where
    there : Contains old.tells event ⊎ ((event ≡ one) × (one.tick < old.horizon)) → Contains old.tells event ⊎ ((event ≡ one) × (event.tick < old.horizon))
    there (inl h) = inl h
    there (inr h) = inr (h.0, subst (λ (t : LevelEvent). t.tick < old.horizon) (sym h.0) h.1)

    back : Contains old.tells event ⊎ ((event ≡ one) × (event.tick < old.horizon)) → Contains old.tells event ⊎ ((event ≡ one) × (one.tick < old.horizon))
    back (inl h) = inl h
    back (inr h) = inr (h.0, subst (λ (t : LevelEvent). t.tick < old.horizon) h.0 h.1)

-- the same in other words
pub notes-as : (IsNew IsOther : LevelEvent → Type 0) (old new : Calendar) → ((event : LevelEvent) → IsNew event → IsOther event) → ((event : LevelEvent) → IsOther event → IsNew event)
    → NotesEach IsNew old new → NotesEach IsOther old new
notes-as IsNew IsOther old new to from notes event = (λ h. there ((notes event).0 h), λ h. (notes event).1 (back h))
  where
    there : Contains old.tells event ⊎ (IsNew event × (event.tick < old.horizon)) → Contains old.tells event ⊎ (IsOther event × (event.tick < old.horizon))
    there (inl h) = inl h
    there (inr h) = inr (to event h.0, h.1)

    back : Contains old.tells event ⊎ (IsOther event × (event.tick < old.horizon)) → Contains old.tells event ⊎ (IsNew event × (event.tick < old.horizon))
    back (inl h) = inl h
    back (inr h) = inr (from event h.0, h.1)

-- some things, and then others
pub notes-more : (IsFirst IsSecond IsNew : LevelEvent → Type 0) (old between new : Calendar) → between.horizon ≡ old.horizon
    → ((event : LevelEvent) → IsNew event → IsFirst event ⊎ IsSecond event) → ((event : LevelEvent) → IsFirst event → IsNew event) → ((event : LevelEvent) → IsSecond event → IsNew event)
    → NotesEach IsFirst old between → NotesEach IsSecond between new → NotesEach IsNew old new
notes-more IsFirst IsSecond IsNew old between new same parts first second before after event = (λ h. there ((after event).0 h), back)
  where
    below : event.tick < between.horizon → event.tick < old.horizon
    below h = subst (λ (n : ℕ). event.tick < n) same h

    early : Contains old.tells event ⊎ (IsFirst event × (event.tick < old.horizon)) → Contains old.tells event ⊎ (IsNew event × (event.tick < old.horizon))
    early (inl h) = inl h
    early (inr h) = inr (first event h.0, h.1)

    there : Contains between.tells event ⊎ (IsSecond event × (event.tick < between.horizon)) → Contains old.tells event ⊎ (IsNew event × (event.tick < old.horizon))
    there (inl h) = early ((before event).0 h)
    there (inr h) = inr (second event h.0, below h.1)

    late : IsFirst event ⊎ IsSecond event → event.tick < old.horizon → Contains new.tells event
    late (inl h) small = (after event).1 (inl ((before event).1 (inr (h, small))))
    late (inr h) small = (after event).1 (inr (h, subst (λ (n : ℕ). event.tick < n) (sym same) small))

    back : Contains old.tells event ⊎ (IsNew event × (event.tick < old.horizon)) → Contains new.tells event
    back (inl h) = (after event).1 (inl ((before event).1 (inl h)))
    back (inr h) = late (parts event h.0) h.1

-- one more element of a list
module _ {X : Type 0} (xs : List X) (i : ℕ) (d : X) (inside : i < length xs) where
  pub taken-before : (x : X) → Contains (take i xs) x → Contains (take (i + 1) xs) x
  taken-before x h = subst (λ (ys : List X). Contains ys x) (sym (take_more xs i d inside)) (Contains-append_left (take i xs) (get_or xs i d ∷ []) x h)

  pub taken-last : Contains (take (i + 1) xs) (get_or xs i d)
  taken-last = subst (λ (ys : List X). Contains ys (get_or xs i d)) (sym (take_more xs i d inside)) (Contains-push (take i xs) (get_or xs i d))

  pub taken-cases : (x : X) → Contains (take (i + 1) xs) x → Contains (take i xs) x ⊎ (get_or xs i d ≡ x)
  taken-cases x h = Contains-push_cases (take i xs) (get_or xs i d) x (subst (λ (ys : List X). Contains ys x) (take_more xs i d inside) h)
