use Rattle.std.proofs.Common.{◌≡◌, ◌∙◌}
use Rattle.cmb_design_model.specs.Value.{changes, value}
use Rattle.cmb_design_model.proofs.PlainFacts.{grown-whole, whole_trace}
use Rattle.cmb_design_model.proofs.plain.wave_of.Goals as goal

pub extend-requires : goal.extend-requires
extend-requires c =
    let same : c.as_slice.result.now ≡ changes c.args.design.now c.args.net 0 c.args.design.now.horizon = c.as_slice.ensures.value ∙ c.in_ok-collect_changes.ensures in
    rw (c.new-wave.ensures, same, c.horizon.ensures.value) (whole_trace (value c.args.design.now c.args.net) c.args.design.now.horizon)

pub returns : goal.returns
returns c =
    let same : c.as_slice.result.now ≡ changes c.args.design.now c.args.net 0 c.args.design.now.horizon = c.as_slice.ensures.value ∙ c.in_ok-collect_changes.ensures in
    c.in_ok-extend.ensures.ok ∙ rw c.new-wave.ensures (grown-whole c.args.design.now c.args.net c.as_slice.result.now c.horizon.result c.horizon.ensures.value same)
