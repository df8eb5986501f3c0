use Rattle.std.proofs.Common.{◌≡◌, ℕ, List, length, get_or, sym, ap, subst, ◌∙◌, arith}
use Rattle.std.proofs.lemmas.List.{with_items_is}
use Rattle.std.specs.Vec.{with_items}
use Rattle.cmb_engine.specs.Inner.Batches.{Makes}
use Rattle.cmb_engine.specs.Inner.Cells.{cell_at, IsLawful}
use Rattle.cmb_engine.specs.Inner.Known.{known_planes}
use Rattle.cmb_engine.specs.Inner.Planes.{Planes, planes_in}
use Rattle.cmb_engine.specs.Inner.Words.{levels_of}
use Rattle.cmb_engine.proofs.PlaneFacts.{as-many, planes-known, planes-length}
use Rattle.cmb_engine.proofs.words.Words.make_known.Goals as goal

pub make_known-requires-clause-within : goal.make_known-requires-clause-within
make_known-requires-clause-within c = λ rank within.
    let many = as-many c.args.self.now c.self.inside.ones.items c.self.inside.unknown.items c.deref_mut.result.now c.deref_mut.ensures.value c.self.invariant.same (c.self.view_is ∙ c.look.ensures) in
    omega (arith, c.requires.within rank within, many)

pub make_known-requires-clause-lawful : goal.make_known-requires-clause-lawful
make_known-requires-clause-lawful c = λ rank within.
    subst (λ (n : ℕ). IsLawful n c.args.first (cell_at c.args.nodes.now.cells rank))
    (sym (as-many c.args.self.now c.self.inside.ones.items c.self.inside.unknown.items c.deref_mut.result.now c.deref_mut.ensures.value c.self.invariant.same (c.self.view_is ∙ c.look.ensures)))
    (c.requires.lawful rank within)

pub returns-clause-len : goal.returns-clause-len
returns-clause-len c =
    let made : List ℕ = c.make_known.new.ones in
    let count : length made ≡ length c.self.inside.ones.items = c.make_known.ensures.len ∙ ap length c.deref_mut.ensures.value in
    let items : (with_items c.self.inside.ones made).items ≡ made = with_items_is c.self.inside.ones made (omega (arith, count, c.self.inside.ones.ok.0)) in
    ap (λ (ms : List ℕ). length (planes_in ms c.self.inside.unknown.items)) items
    ∙ planes-length made c.self.inside.unknown.items (c.self.invariant.same ∙ sym count)
    ∙ c.make_known.ensures.len
    ∙ as-many c.args.self.now c.self.inside.ones.items c.self.inside.unknown.items c.deref_mut.result.now c.deref_mut.ensures.value c.self.invariant.same (c.self.view_is ∙ c.look.ensures)

pub returns-clause-makes : goal.returns-clause-makes
returns-clause-makes c = λ cells order slots nodes.
    let ones : List ℕ = c.self.inside.ones.items in
    let unknown : List ℕ = c.self.inside.unknown.items in
    let made : List ℕ = c.make_known.new.ones in
    let words : planes_in ones unknown ≡ c.args.self.now = c.self.view_is ∙ c.look.ensures in
    let clear : (slot : ℕ) → get_or unknown slot 0 ≡ 0 = c.self.invariant.clear c.if-not-self.false in
    let count : length made ≡ length ones = c.make_known.ensures.len ∙ ap length c.deref_mut.ensures.value in
    let items : (with_items c.self.inside.ones made).items ≡ made = with_items_is c.self.inside.ones made (omega (arith, count, c.self.inside.ones.ok.0)) in
    let old : known_planes c.deref_mut.result.now ≡ c.args.self.now =
    ap known_planes c.deref_mut.ensures.value ∙ sym (planes-known ones unknown c.self.invariant.same clear) ∙ words in
    let new : known_planes made ≡ planes_in (with_items c.self.inside.ones made).items unknown =
    sym (planes-known made unknown (c.self.invariant.same ∙ sym count) clear) ∙ ap (λ (ms : List ℕ). planes_in ms unknown) (sym items) in
    subst (λ (ws : List Planes). Makes (cell_at cells) order c.args.to c.args.first c.args.batch.base c.args.batch.places c.make_known.result (levels_of ws) (levels_of (planes_in (with_items c.self.inside.ones made).items unknown))) old
    (subst (λ (ws : List Planes). Makes (cell_at cells) order c.args.to c.args.first c.args.batch.base c.args.batch.places c.make_known.result (levels_of (known_planes c.deref_mut.result.now)) (levels_of ws)) new
    (c.make_known.ensures.makes cells order slots nodes))
