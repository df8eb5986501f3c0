use Rattle.std.proofs.Common.{◌≡◌, ◌<◌, ℕ, List, [], ◌∷◌, ◌++◌, length, get_or, map, take, sym, ap, ap₂, ◌∙◌, arith}
use Rattle.std.proofs.lemmas.List.{get_or-map, map_more}
use Rattle.smallvec.specs.SmallVec.{SmallVec}
use Rattle.cmb_engine.specs.Inner.Lists.{lists_between}
use Rattle.cmb_engine.specs.Inner.Orders.{rank_in}
use Rattle.cmb_engine.proofs.JoinFacts.{lists_between-append, starts-append}
use Rattle.cmb_engine.proofs.readers.Readers.ranked.Goals as goal

pub loop-slot-preserved : goal.loop-slot-preserved
loop-slot-preserved c =
    let items : SmallVec ℕ → List ℕ = λ v. v.items in
    let slots : List ℕ = c.args.order.now.slots in
    let k : ℕ = c.loop-slot.slot-index in
    let ranks : ℕ → List ℕ = λ slot. map (rank_in c.args.order.now) (get_or (map items c.args.lists.now) slot []) in
    let nets : List ℕ = c.loop-slot.nets.items in
    let list : List ℕ = map (rank_in c.args.order.now) c.as_slice.result.now in
    let grows = c.in_ok-push_ranks.ensures in
    let end : c.in-Ok.end ≡ length (nets ++ list) = omega (arith, c.in-Ok.ensures, c.len.ensures, ap length grows, c.push_ranks.new.ranks.ok) in
    let more : k < length slots = omega (arith, c.loop-slot-test.true, ap length c.slots-slot-items.ensures) in
    let slot : get_or c.slots-slot-items.result.now k 0 ≡ get_or slots k 0 = ap (λ (xs : List ℕ). get_or xs k 0) c.slots-slot-items.ensures in
    let inside : get_or c.slots-slot-items.result.now k 0 < length c.args.lists.now = omega (arith, slot, c.requires k 0 more) in
    let is : list ≡ ranks (get_or slots k 0) =
    ap (map (rank_in c.args.order.now))
    (c.as_slice.ensures ∙ ap items c.index-lists-slot.is ∙ sym (get_or-map items c.args.lists.now (get_or c.slots-slot-items.result.now k 0) c.index-lists-slot.result [] inside))
    ∙ ap ranks slot in
    record {
      starts = rw (grows, c.in_ok-push.ensures.items) (starts-append nets list c.loop-slot.starts.items _ c.loop-slot.invariant.starts end);
      lists = ap₂ lists_between grows c.in_ok-push.ensures.items
          ∙ lists_between-append nets list c.loop-slot.starts.items _ c.loop-slot.invariant.starts end
          ∙ ap (λ ls. ls ++ list ∷ []) c.loop-slot.invariant.lists
          ∙ ap (λ l. map ranks (take k slots) ++ l ∷ []) is
          ∙ sym (map_more ranks slots k 0 more);
    }
