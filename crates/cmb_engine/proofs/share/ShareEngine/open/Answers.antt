use Rattle.std.proofs.Common.{◌≡◌, ℕ, ◌∙◌, List, true, subst, sym}
use Rattle.std.proofs.lemmas.Result.{IfOk-weaker}
use Rattle.cmb_engine.specs.Shares.{is_told}
use Rattle.cmb_engine.proofs.BitFacts.{told-has}
use Rattle.cmb_engine.proofs.share.ShareEngine.open.Goals as goal

pub returns-clause-told : goal.returns-clause-told
returns-clause-told c =
    IfOk-weaker c.begin.result _ _
    (λ engine same net marked. subst (λ (told : List ℕ). is_told told net ≡ true) (sym same) (told-has c.in_ok-circuit.circuit.wanted net ∙ c.in_ok-circuit.ensures.wanted net marked))
    c.begin.ensures.told
