use Rattle.std.proofs.Common.{ℕ, List, set, sym, ap, ◌∙◌, arith}
use Rattle.cmb_engine.specs.Inner.Planes.{Planes, planes_in, planes_of}
use Rattle.cmb_engine.proofs.PlaneFacts.{inside-ones, planes-set, planes-set_known, words-set}
use Rattle.cmb_engine.proofs.words.Words.set.Goals as goal

pub index_mut-requires : goal.index_mut-requires
index_mut-requires c =
    omega (arith, inside-ones c.self.inside.ones.items c.self.inside.unknown.items c.args.self.now c.args.slot c.self.view_is c.self.invariant.same c.requires, c.self.inside.ones.ok.0)

pub index_mut-requires-then-word-ne0 : goal.index_mut-requires-then-word-ne0
index_mut-requires-then-word-ne0 c =
    omega (arith, inside-ones c.self.inside.ones.items c.self.inside.unknown.items c.args.self.now c.args.slot c.self.view_is c.self.invariant.same c.requires, c.self.invariant.same, c.self.inside.unknown.ok.0)

pub returns-then-word-ne0 : goal.returns-then-word-ne0
returns-then-word-ne0 c =
    planes-set c.self.inside.ones.items c.self.inside.unknown.items c.args.slot c.args.word.ones c.args.word.unknown c.self.invariant.same
    ∙ ap (λ (words : List Planes). set words c.args.slot (planes_of c.args.word)) c.self.view_is

pub returns-else-not-self : goal.returns-else-not-self
returns-else-not-self c =
    planes-set_known c.self.inside.ones.items c.self.inside.unknown.items c.args.slot c.args.word.ones c.self.invariant.same (c.self.invariant.clear c.if-not-self.false c.args.slot)
    ∙ ap (λ (other : ℕ). set (planes_in c.self.inside.ones.items c.self.inside.unknown.items) c.args.slot (record { ones = c.args.word.ones; unknown = other })) (sym c.if-word-ne0.false)
    ∙ ap (λ (words : List Planes). set words c.args.slot (planes_of c.args.word)) c.self.view_is

pub invariant_of-self-then-word-ne0 : goal.invariant_of-self-then-word-ne0
invariant_of-self-then-word-ne0 c =
    words-set c.self.inside.ones.items c.self.inside.unknown.items c.self.inside.known c.args.slot c.args.word.ones c.args.word.unknown
    (inside-ones c.self.inside.ones.items c.self.inside.unknown.items c.args.self.now c.args.slot c.self.view_is c.self.invariant.same c.requires) c.args.word.apart c.self.invariant
