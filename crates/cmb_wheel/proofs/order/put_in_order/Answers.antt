use Rattle.std.proofs.Common.{rules, List, subst}
use Rattle.std.proofs.lemmas.Fn.{always_returns_same}
use Rattle.std.proofs.lemmas.List.Sorted.{IsNonDecreasingBy-from_sort_by_key}
use Rattle.cmb_wheel.specs.Calendars.{AreInOrder}
use Rattle.cmb_wheel.specs.declared.event.LevelEvent.{LevelEvent}
use Rattle.cmb_wheel.proofs.OrderFacts.{tick_of, order-from_ticks, order-from_test}
use Rattle.cmb_wheel.proofs.order.put_in_order.Goals as goal

pub returns-in_ok-sort_by_key-clause-order : goal.returns-in_ok-sort_by_key-clause-order
returns-in_ok-sort_by_key-clause-order c =
    order-from_ticks _ (IsNonDecreasingBy-from_sort_by_key tick_of _ c.in_ok-sort_by_key.ensures.sorted (λ a r q k. search rules))

pub returns-else-not-is_sorted_by_key-clause-order : goal.returns-else-not-is_sorted_by_key-clause-order
returns-else-not-is_sorted_by_key-clause-order c =
    subst (λ (tells : List LevelEvent). AreInOrder tells) c.deref.ensures.value
    (order-from_test c.deref.result.now (c.if-not-is_sorted_by_key.ensures.cases tick_of (always_returns_same _ _ _ (λ a r q k. search rules))))
