use Rattle.std.proofs.Common.{◌≡◌, ◌∷◌, [], ◌∙◌, ap, sym, ◌++◌, rules, None}
use Rattle.std.specs.Prelude.{◌==◌, position}
use Rattle.std.proofs.lemmas.List.{take_rest}
use Rattle.cmb_run_scopes.proofs.PartFacts.{pieces-more, pieces-none}
use Rattle.cmb_run_scopes.proofs.parts.pieces_of.Goals as goal

pub loop-dot-preserved : goal.loop-dot-preserved
loop-dot-preserved c =
    rw take_rest
    (pieces-more c.loop-dot.parts.items c.loop-dot.rest.now c.in-Some.dot c.push.new.self.items _ c.in-Some.ensures (search rules) c.loop-dot.invariant)

pub returns : goal.returns
returns c =
    let none : None ≡ position (λ byte. byte == 46) c.loop-dot.rest.now = search rules in
    let pushed : c.push-2.new.self.items ≡ c.loop-dot.parts.items ++ c.loop-dot.rest.now ∷ [] = search rules in
    pushed ∙ ap (λ t. c.loop-dot.parts.items ++ t) (sym (pieces-none c.loop-dot.rest.now none)) ∙ c.loop-dot.invariant
