use Rattle.std.proofs.Common.{◌≡◌, ◌+◌, ◌-◌, ◌<◌, ◌≤◌, ◌⊎◌, inl, inr, ℕ, true, false, List, length, get_or, sym, ap, subst, ◌∙◌, arith}
use Rattle.std.specs.Prelude.{All, Contains}
use Rattle.std.proofs.lemmas.Bool.{cases_lt, false≢true}
use Rattle.std.proofs.lemmas.List.{get_or_default}
use Rattle.cmb_engine.specs.Inner.Cells.{Cell}
use Rattle.cmb_engine.specs.Inner.Circuits.{IsGroup, IsMarkedOrRests}
use Rattle.cmb_engine.specs.Inner.Orders.{is_marked}
use Rattle.cmb_engine.specs.Rows.{arrives_by}
use Rattle.cmb_engine.specs.Inner.Words.{levels_of}
use Rattle.cmb_engine.specs.declared.group.Group.{Group}
use Rattle.cmb_engine.proofs.GroupFacts.{rests-kept}
use Rattle.cmb_engine.proofs.flops.mark_arrivals.Goals as goal
use Rattle.cmb_engine.proofs.flops.mark_arrivals.Goals.{then-opens, else-opens}

pub loop-group-preserved : goal.loop-group-preserved
loop-group-preserved c = record {
  room = c.mark_group-opens.ensures.room ∙ c.loop-group.invariant.room;
  kept = λ m h. c.mark_group-opens.ensures.kept m (c.loop-group.invariant.kept m h);
  arrivals = λ cells are k d slot place below among from small arrives. go cells are k d slot place below among from small arrives (cases_lt k c.loop-group.group-index);
  closed = λ shut k d place below from small arrives. shut_at (both shut) k d place below from small arrives (cases_lt k c.loop-group.group-index);
}
  where
    both : c.if-opens.opened ≡ false → (c.mark_group-opens.result ≡ false) × (c.loop-group.opened ≡ false)
    both shut = elim c.if-opens.branch [
      | then-opens w ↦ absurd (false≢true (sym shut ∙ w.opened-is ∙ w.if-opens.true))
      | else-opens w ↦ (w.if-opens.false, sym w.opened-is ∙ shut)
    ]

    is : (k : ℕ) → (d : Group) → k < c.loop-group.group-index + 1 → c.loop-group.group-index ≤ k → get_or c.args.groups.now k d ≡ c.group-item.result
    is k d below l =
        let at : k ≡ c.loop-group.group-index = omega (arith, l, below) in
        let inside : k < length c.args.groups.now = omega (arith, below, c.loop-group-test.true) in
        get_or_default c.args.groups.now k d c.group-item.result inside ∙ ap (λ n. get_or c.args.groups.now n c.group-item.result) at ∙ sym c.group-item.is

    shut_at : (c.mark_group-opens.result ≡ false) × (c.loop-group.opened ≡ false) → (k : ℕ) → (d : Group) → (place : ℕ) → k < c.loop-group.group-index + 1 → c.args.first ≤ place → place < 64
        → arrives_by (get_or c.args.groups.now k d).clock (get_or c.args.groups.now k d).delay (c.args.to + place - 64) ≡ true
        → (k < c.loop-group.group-index) ⊎ (c.loop-group.group-index ≤ k) → place < c.args.first + (get_or c.args.groups.now k d).delay
    shut_at h k d place below from small arrives (inl l) = c.loop-group.invariant.closed h.1 k d place l from small arrives
    shut_at h k d place below from small arrives (inr l) =
        subst (λ (group : Group). place < c.args.first + group.delay) (sym (is k d below l))
        (c.mark_group-opens.ensures.closed h.0 place from small
        (subst (λ (group : Group). arrives_by group.clock group.delay (c.args.to + place - 64) ≡ true) (is k d below l) arrives))

    go : (cells : List Cell) → All (IsGroup cells) c.args.groups.now → (k : ℕ) → (d : Group) → (slot place : ℕ) → k < c.loop-group.group-index + 1 → Contains (get_or c.args.groups.now k d).flops.items slot → c.args.first ≤ place → place < 64
        → arrives_by (get_or c.args.groups.now k d).clock (get_or c.args.groups.now k d).delay (c.args.to + place - 64) ≡ true
        → (k < c.loop-group.group-index) ⊎ (c.loop-group.group-index ≤ k)
        → IsMarkedOrRests (is_marked c.args.order.now c.mark_group-opens.new.marks) (levels_of c.args.words.now) c.args.first cells slot
    go cells are k d slot place below among from small arrives (inl l) =
        rests-kept c.args.order.now c.loop-group.marks c.mark_group-opens.new.marks (levels_of c.args.words.now) c.args.first cells slot c.mark_group-opens.ensures.kept
        (c.loop-group.invariant.arrivals cells are k d slot place l among from small arrives)
    go cells are k d slot place below among from small arrives (inr l) =
        c.mark_group-opens.ensures.arrivals cells (subst (IsGroup cells) (is k d below l) (are k d (omega (arith, below, c.loop-group-test.true)))) slot place
        (subst (λ (group : Group). Contains group.flops.items slot) (is k d below l) among) from small
        (subst (λ (group : Group). arrives_by group.clock group.delay (c.args.to + place - 64) ≡ true) (is k d below l) arrives)

pub returns-clause-arrivals : goal.returns-clause-arrivals
returns-clause-arrivals c = λ cells are clock delay slot place h from small arrives.
    c.loop-group.invariant.arrivals cells are h.among.0 h.group slot place (omega (arith, h.among.1, c.loop-group-test.false))
    (subst (λ (group : Group). Contains group.flops.items slot) (sym h.among.2) h.listed) from small
    (subst (λ (group : Group). arrives_by group.clock group.delay (c.args.to + place - 64) ≡ true) (sym h.among.2) (rw (h.same_clock, h.same_delay) arrives))
