use Rattle.std.proofs.Common.{◌≡◌, ℕ, length, arith, rules, subst}
use Rattle.std.proofs.lemmas.List.Sorted.{IsNonDecreasingBy-from_sort_by_key}
use Rattle.cmb_count.specs.Inner.Arrivals.{number_of}
use Rattle.cmb_count.proofs.OrderFacts.{ArePlaced, ordered}
use Rattle.cmb_count.proofs.components.order_of.Goals as goal

pub returns : goal.returns
returns c =
    ordered c.args.numbers.now c.loop-net.order.items c.sort_by_key.new.self.items
    (subst (λ (n : ℕ). ArePlaced c.args.numbers.now c.loop-net.order.items n) (let e : c.loop-net.net ≡ length c.args.numbers.now = omega (arith, c.loop-net-test.false, c.loop-net.auto.net-end) in e) c.loop-net.invariant)
    c.in_ok-sort_by_key.ensures.permutation
    (IsNonDecreasingBy-from_sort_by_key number_of _ c.in_ok-sort_by_key.ensures.sorted (λ a r q k. search rules))
