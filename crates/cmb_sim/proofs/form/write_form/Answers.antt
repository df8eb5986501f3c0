use Rattle.std.proofs.Common.{◌∙◌}
use Rattle.cmb_sim.proofs.Forms.{replaced-way, way-behind}
use Rattle.cmb_sim.proofs.Puts.{IsPut-held, IsPut-scoped}
use Rattle.cmb_sim.specs.Inner.Plans.{way_text}
use Rattle.cmb_sim.proofs.form.write_form.Goals as goal

pub put_scoped-requires-clause-header : goal.put_scoped-requires-clause-header
put_scoped-requires-clause-header g c =
    let way = c.args.plan.now.way in
    let design = c.args.design.now in
    way-behind way design c.in_ok-headers.headers c.as_slice.result.now c.in_ok-headers.ensures
    (c.as_slice.ensures.value ∙ IsPut-held (way_text way design) _ _ _ _ _ _ c.in_ok-room.ensures.empty c.in-Ok.ensures)

pub returns-in-Ok : goal.returns-in-Ok
returns-in-Ok g c =
    let way = c.args.plan.now.way in
    let design = c.args.design.now in
    IsPut-scoped c.args.scopes c.args.plan.now design _ _ _ c.if-not-scopes.false
    (replaced-way way design c.in_ok-headers.headers c.as_slice.result.now c.in_ok-headers.ensures
    (c.as_slice.ensures.value ∙ IsPut-held (way_text way design) _ _ _ _ _ _ c.in_ok-room.ensures.empty c.in-Ok.ensures))
    c.put_scoped.ensures
