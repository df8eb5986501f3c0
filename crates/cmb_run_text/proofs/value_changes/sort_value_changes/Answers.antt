use Rattle.std.proofs.Common.{rules}
use Rattle.std.proofs.lemmas.List.Sorted.{IsNonDecreasingBy-from_sort_by_key}
use Rattle.std.proofs.lemmas.Fn.{always_returns_same}
use Rattle.cmb_run_text.specs.Inner.ValueChanges.{tick_of}
use Rattle.cmb_run_text.proofs.OrderFacts.{stays_by_tick}
use Rattle.cmb_run_text.proofs.value_changes.sort_value_changes.Goals as goal

pub returns-clause-sorted : goal.returns-clause-sorted
returns-clause-sorted c = IsNonDecreasingBy-from_sort_by_key tick_of _ c.in_ok-sort_by_key.ensures.sorted (λ a r q k. search rules)

pub returns-clause-stable : goal.returns-clause-stable
returns-clause-stable c = λ t. stays_by_tick _ _ (c.in_ok-sort_by_key.ensures.stable tick_of (always_returns_same _ _ _ (λ a r q k. search rules))) t
