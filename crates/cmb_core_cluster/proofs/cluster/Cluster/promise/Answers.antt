use Rattle.std.proofs.Common.{◌≡◌, ap, sym, ◌∙◌, subst}
use Rattle.cmb_wave.specs.Calls.{promised}
use Rattle.cmb_design_model.specs.Exact.{IsRightIn}
use Rattle.cmb_core_cluster.specs.Step.{wave_at}
use Rattle.cmb_core_cluster.proofs.ExactFacts.{placed_exact}
use Rattle.cmb_core_cluster.proofs.Inputs.{output_slot_is, output_wave}
use Rattle.cmb_core_cluster.proofs.cluster.Cluster.promise.Goals as goal

is : (c : goal.After-promise) → c.promise.result ≡ promised (wave_at c.args.self.now.waves c.args.net)
is c = c.promise.ensures ∙ ap promised (c.wave.ensures.wave ∙ output_wave c.args.self.now c.args.net c.driven_place.result c.driven_place.ensures.place)

pub returns-clause-promised : goal.returns-clause-promised
returns-clause-promised c = is c

pub returns-clause-right : goal.returns-clause-right
returns-clause-right c = λ design clustering cluster exact.
    let wave = placed_exact design c.args.self.now.waves c.args.net c.driven_place.result exact.waves (output_slot_is c.args.self.now c.args.net c.driven_place.result c.driven_place.ensures.place) in
    subst (IsRightIn design) (sym (is c)) (record { net = wave.net; within = wave.exact.within; count = wave.exact.count })
