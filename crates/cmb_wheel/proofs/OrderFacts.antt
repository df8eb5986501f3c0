-- Tells by rising ticks.
use Rattle.std.proofs.Common.{◌≡◌, ℕ, zero, suc, ◌+◌, ◌<◌, ◌≤◌, true, List, [], ◌∷◌, length, get_or, sym, subst, arith}
use Rattle.std.specs.List.Sorted.{IsNonDecreasingBy}
use Rattle.std.specs.Ordering.{nat_cmp, is_le}
use Rattle.std.proofs.lemmas.List.Sorted.{IsNonDecreasingBy-from_all_adjacent}
use Rattle.std.proofs.lemmas.Map.Keys.{le_from_is_le}
use Rattle.cmb_wheel.specs.Calendars.{AreInOrder}
use Rattle.cmb_wheel.specs.declared.event.LevelEvent.{LevelEvent}

abbrev pub tick_of : LevelEvent → ℕ
tick_of event = event.tick

pub order-from_ticks : (tells : List LevelEvent) → IsNonDecreasingBy tick_of tells → AreInOrder tells
order-from_ticks [] rises = tt
order-from_ticks (event ∷ tells) rises = (
  λ later has. subst (λ (t : LevelEvent). event.tick ≤ t.tick) has.2 (rises zero (suc has.0) later (omega arith) (omega (arith, has.1))),
  order-from_ticks tells (λ i j d below small. rises (suc i) (suc j) d (omega arith) (omega arith)),
)

pub order-from_test : (tells : List LevelEvent) → ((k : ℕ) (d : LevelEvent) → k + 1 < length tells → true ≡ is_le (nat_cmp (tick_of (get_or tells k d)) (tick_of (get_or tells (k + 1) d)))) → AreInOrder tells
order-from_test tells rises =
    order-from_ticks tells
    (IsNonDecreasingBy-from_all_adjacent tick_of tells
    (λ k d small. le_from_is_le (tick_of (get_or tells k d)) (tick_of (get_or tells (k + 1) d)) (sym (rises k d small))))
