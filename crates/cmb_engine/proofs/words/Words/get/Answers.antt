use Rattle.std.proofs.Common.{◌≡◌, ◌<◌, ℕ, List, length, get_or, sym, ap, ap₂, ◌∙◌, arith}
use Rattle.std.proofs.lemmas.Grind.{get_or_default_zero}
use Rattle.cmb_engine.specs.Inner.Planes.{Planes}
use Rattle.cmb_engine.proofs.PlaneFacts.{inside-ones, planes-get}
use Rattle.cmb_engine.proofs.words.Words.get.Goals as goal
use Rattle.cmb_engine.proofs.words.Words.get.Goals.{then-self, else-self}

pub index-requires : goal.index-requires
index-requires c =
    omega (arith, inside-ones c.self.inside.ones.items c.self.inside.unknown.items c.args.self.now c.args.slot c.self.view_is c.self.invariant.same c.requires, c.self.invariant.same, c.self.inside.unknown.ok.0)

pub index-requires-2 : goal.index-requires-2
index-requires-2 c =
    omega (arith, inside-ones c.self.inside.ones.items c.self.inside.unknown.items c.args.self.now c.args.slot c.self.view_is c.self.invariant.same c.requires, c.self.inside.ones.ok.0)

-- what is read of each plane
pub invariant_of-result : goal.invariant_of-result
invariant_of-result c =
    let ones = c.self.inside.ones.items in
    let unknown = c.self.inside.unknown.items in
    let inside : c.args.slot < length ones = inside-ones ones unknown c.args.self.now c.args.slot c.self.view_is c.self.invariant.same c.requires in
    let is : c.index-2.result.now ≡ get_or ones c.args.slot 0 = c.index-2.ensures ∙ get_or_default_zero ones c.args.slot c.index-2.result.now inside in
    let other : c.if-self.unknown ≡ get_or unknown c.args.slot 0 =
    elim c.if-self.branch [
      | then-self w ↦ w.unknown-is ∙ sym (c.self.invariant.clear w.if-self.true c.args.slot)
      | else-self w ↦ w.unknown-is ∙ w.index.ensures ∙ get_or_default_zero unknown c.args.slot w.index.result.now (omega (arith, inside, c.self.invariant.same))
    ] in
    record { apart = λ place small. rw (is, other) (c.self.invariant.apart c.args.slot place small) }

pub returns : goal.returns
returns c = λ d.
    let ones = c.self.inside.ones.items in
    let unknown = c.self.inside.unknown.items in
    let inside : c.args.slot < length ones = inside-ones ones unknown c.args.self.now c.args.slot c.self.view_is c.self.invariant.same c.requires in
    let is : c.index-2.result.now ≡ get_or ones c.args.slot 0 = c.index-2.ensures ∙ get_or_default_zero ones c.args.slot c.index-2.result.now inside in
    let other : c.if-self.unknown ≡ get_or unknown c.args.slot 0 =
    elim c.if-self.branch [
      | then-self w ↦ w.unknown-is ∙ sym (c.self.invariant.clear w.if-self.true c.args.slot)
      | else-self w ↦ w.unknown-is ∙ w.index.ensures ∙ get_or_default_zero unknown c.args.slot w.index.result.now (omega (arith, inside, c.self.invariant.same))
    ] in
    ap₂ (λ (a b : ℕ). record { ones = a; unknown = b }) is other ∙ sym (planes-get ones unknown c.args.slot d c.self.invariant.same inside)
    ∙ ap (λ (words : List Planes). get_or words c.args.slot d) c.self.view_is
