use Rattle.cmb_sim.proofs.Puts.{IsPut-held, IsPut-more}
use Rattle.cmb_sim.specs.Inner.Plans.{way_text}
use Rattle.cmb_sim.proofs.running.write_plan.Goals as goal

pub returns-in-Ok : goal.returns-in-Ok
returns-in-Ok g c =
    let text = way_text c.args.plan.now.way c.args.design.now in
    IsPut-more _ (λ _. ⊥) _ _ _ (λ f h. absurd h) (c.put.ensures text (IsPut-held text _ _ _ _ _ _ c.in_ok-room.ensures.empty c.in-Ok.ensures))
