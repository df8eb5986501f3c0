use Rattle.std.proofs.Common.{ℕ, ◌∙◌, arith}
use Rattle.cmb_engine.specs.Inner.Walks.{walked}
use Rattle.cmb_engine.proofs.MarkFacts.{has-inside, marks-taken}
use Rattle.cmb_engine.proofs.marks.Marks.take.Goals as goal

pub take_places-places-requires : goal.take_places-places-requires
take_places-places-requires c = has-inside c.args.self.now c.in_ok-first.first c.in_ok-first.ensures.0.member

pub returns : goal.returns
returns c =
    let first : ℕ = c.in_ok-first.first in
    marks-taken c.args.self.now c.take_places-places.new.self (walked c.args.walk.now) first c.level_end-end.result c.take_places-places.result c.in_ok-first.ensures.0
    c.level_end-end.ensures.behind c.level_end-end.ensures.within c.take_places-places.ensures.len c.take_places-places.ensures.left
    (λ place small from to h. c.take_places-places.ensures.taken place small (c.between.ensures place from to) h)
    (walked c.behind.result) (c.behind.ensures.walked ∙ omega (arith, c.level_end-end.ensures.behind))
