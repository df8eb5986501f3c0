use Rattle.std.proofs.Common.{◌≡◌, ℕ, List, length, get_or, sym, ap, subst, ◌∙◌, arith}
use Rattle.std.proofs.lemmas.List.{with_items_is}
use Rattle.std.specs.Vec.{with_items}
use Rattle.cmb_engine.specs.Inner.Batches.{Moves}
use Rattle.cmb_engine.specs.Inner.Cells.{HaveReaders, readers_at}
use Rattle.cmb_engine.specs.Inner.Known.{known_planes}
use Rattle.cmb_engine.specs.Inner.Planes.{Planes, planes_in}
use Rattle.cmb_engine.specs.Inner.Words.{levels_of}
use Rattle.cmb_engine.proofs.PlaneFacts.{as-many, planes-known, planes-length}
use Rattle.cmb_engine.proofs.words.Words.move_known.Goals as goal

pub move_known-requires-clause-lists : goal.move_known-requires-clause-lists
move_known-requires-clause-lists c =
    subst (HaveReaders c.args.fanout.now.order c.args.fanout.now.gates)
    (sym (as-many c.args.self.now c.self.inside.ones.items c.self.inside.unknown.items c.deref_mut.result.now c.deref_mut.ensures.value c.self.invariant.same c.self.view_is)) c.requires.lists

pub returns-clause-len : goal.returns-clause-len
returns-clause-len c =
    let made : List ℕ = c.move_known.new.ones in
    let count : length made ≡ length c.self.inside.ones.items = c.move_known.ensures.len ∙ ap length c.deref_mut.ensures.value in
    let items : (with_items c.self.inside.ones made).items ≡ made = with_items_is c.self.inside.ones made (omega (arith, count, c.self.inside.ones.ok.0)) in
    ap (λ (ms : List ℕ). length (planes_in ms c.self.inside.unknown.items)) items
    ∙ planes-length made c.self.inside.unknown.items (c.self.invariant.same ∙ sym count)
    ∙ c.move_known.ensures.len
    ∙ as-many c.args.self.now c.self.inside.ones.items c.self.inside.unknown.items c.deref_mut.result.now c.deref_mut.ensures.value c.self.invariant.same c.self.view_is

pub returns-clause-moves : goal.returns-clause-moves
returns-clause-moves c =
    let ones : List ℕ = c.self.inside.ones.items in
    let unknown : List ℕ = c.self.inside.unknown.items in
    let made : List ℕ = c.move_known.new.ones in
    let clear : (slot : ℕ) → get_or unknown slot 0 ≡ 0 = c.self.invariant.clear c.if-not-self.false in
    let count : length made ≡ length ones = c.move_known.ensures.len ∙ ap length c.deref_mut.ensures.value in
    let items : (with_items c.self.inside.ones made).items ≡ made = with_items_is c.self.inside.ones made (omega (arith, count, c.self.inside.ones.ok.0)) in
    let many : length c.deref_mut.result.now ≡ length c.args.self.now =
    as-many c.args.self.now ones unknown c.deref_mut.result.now c.deref_mut.ensures.value c.self.invariant.same c.self.view_is in
    let old : known_planes c.deref_mut.result.now ≡ c.args.self.now =
    ap known_planes c.deref_mut.ensures.value ∙ sym (planes-known ones unknown c.self.invariant.same clear) ∙ c.self.view_is in
    let new : known_planes made ≡ planes_in (with_items c.self.inside.ones made).items unknown =
    sym (planes-known made unknown (c.self.invariant.same ∙ sym count) clear) ∙ ap (λ (ms : List ℕ). planes_in ms unknown) (sym items) in
    subst (λ (n : ℕ). Moves (readers_at c.args.fanout.now.order c.args.fanout.now.gates) c.args.batch.base c.args.batch.places c.move_known.result n c.args.ticks c.args.first c.args.marks.now c.move_known.new.marks
    (levels_of c.args.self.now) (levels_of (planes_in (with_items c.self.inside.ones made).items unknown))) many
    (subst (λ (ws : List Planes). Moves (readers_at c.args.fanout.now.order c.args.fanout.now.gates) c.args.batch.base c.args.batch.places c.move_known.result (length c.deref_mut.result.now) c.args.ticks c.args.first c.args.marks.now
    c.move_known.new.marks (levels_of ws) (levels_of (planes_in (with_items c.self.inside.ones made).items unknown))) old
    (subst (λ (ws : List Planes). Moves (readers_at c.args.fanout.now.order c.args.fanout.now.gates) c.args.batch.base c.args.batch.places c.move_known.result (length c.deref_mut.result.now) c.args.ticks c.args.first c.args.marks.now
    c.move_known.new.marks (levels_of (known_planes c.deref_mut.result.now)) (levels_of ws)) new c.move_known.ensures.moves))
