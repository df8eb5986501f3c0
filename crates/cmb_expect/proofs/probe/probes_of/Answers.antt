use Rattle.std.proofs.Common.{◌≡◌, ℕ, ◌≤◌, List, length, arith, rules, subst}
use Rattle.std.proofs.lemmas.List.Sorted.{IsNonDecreasingBy-from_sort_by_key}
use Rattle.cmb_expect.specs.declared.probe.Probe.{Probe}
use Rattle.cmb_expect.proofs.ProbeFacts.{ArePlaced, ordered, tick_of}
use Rattle.cmb_expect.proofs.probe.probes_of.Goals as goal

pub returns : goal.returns
returns c =
    ordered c.args.rows.now c.loop-place.probes.items c.sort_by_key.new.self.items
    (subst (λ (n : ℕ). ArePlaced c.args.rows.now c.loop-place.probes.items n) (let e : c.loop-place.place ≡ length c.args.rows.now = omega (arith, c.loop-place-test.false, c.loop-place.auto.place-end) in e) c.loop-place.invariant)
    c.in_ok-sort_by_key.ensures.permutation
    (IsNonDecreasingBy-from_sort_by_key tick_of _ c.in_ok-sort_by_key.ensures.sorted (λ a r q k. search rules))
