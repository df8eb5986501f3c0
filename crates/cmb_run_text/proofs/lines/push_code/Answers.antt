use Rattle.std.proofs.Common.{◌∷◌, [], ◌∙◌, sym, ap, arith, ◌++◌, ◌+◌, ◌-◌, ◌/◌, ◌%◌}
use Rattle.cmb_run_text.specs.Vcd.{code}
use Rattle.cmb_run_text.proofs.Codes.{code-below, code-from}
use Rattle.cmb_design_model.proofs.LevelFacts.{push-rest}
use Rattle.cmb_run_text.proofs.lines.push_code.Goals as goal

pub loop-rest-preserved : goal.loop-rest-preserved
loop-rest-preserved c =
    let r = c.loop-rest.rest in
    push-rest c.loop-rest.out.items c.push.new.self.items ((33 + r % 94) ∷ []) (code (r / 94 - 1)) _ c.in_ok-push.ensures.items
    (ap (λ t. c.loop-rest.out.items ++ t) (sym (code-from r (omega arith))) ∙ c.loop-rest.invariant)

pub returns : goal.returns
returns c =
    let r = c.loop-rest.rest in
    c.in_ok-push-2.ensures.items ∙ ap (λ t. c.loop-rest.out.items ++ t) (sym (code-below r (omega arith))) ∙ c.loop-rest.invariant
