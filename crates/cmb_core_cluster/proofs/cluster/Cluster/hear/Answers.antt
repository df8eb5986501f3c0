use Rattle.std.proofs.Common.{Ok, List, sym, ◌∙◌, ap, subst}
use Rattle.std.specs.List.{AllByRecursion}
use Rattle.cmb_wave.specs.Wave.{Wave}
use Rattle.cmb_design_model.specs.Exact.{IsExactWaveIn}
use Rattle.cmb_core_cluster.proofs.ExactFacts.{heard_exact, still_exact}
use Rattle.cmb_core_cluster.proofs.Inputs.{hear_put, hear_answer}
use Rattle.cmb_core_cluster.proofs.cluster.Cluster.hear.Goals as goal

pub returns-in-Some-clause-answer : goal.returns-in-Some-clause-answer
returns-in-Some-clause-answer c =
    ap (λ h. Ok h) c.hear_at.ensures.answer ∙ hear_answer c.args.self.now c.args.promise c.in-Some.slot (sym c.input_place.ensures.place ∙ c.in-Some.is)

pub returns-in-Some-clause-waves : goal.returns-in-Some-clause-waves
returns-in-Some-clause-waves c =
    hear_put c.args.self.now c.args.promise c.in-Some.slot _ (sym c.input_place.ensures.place ∙ c.in-Some.is) c.hear_at.ensures.waves

pub returns-in-Some-clause-exact : goal.returns-in-Some-clause-exact
returns-in-Some-clause-exact c = λ design clustering cluster exact promise.
    let P : List Wave → Type 0 = λ ws. AllByRecursion (IsExactWaveIn design) ws in
    still_exact design clustering cluster c.args.self.now c.hear_at.new.self c.hear_at.ensures.same exact
    (subst P (sym (returns-in-Some-clause-waves c)) (heard_exact design c.args.self.now.waves c.args.promise exact.waves promise))
