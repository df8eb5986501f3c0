use Rattle.std.proofs.Common.{◌≡◌, length, true, sym, ap, subst, ◌∙◌}
use Rattle.std.specs.Prelude.{replicate}
use Rattle.cmb_netlist.specs.Netlist.{IsNetlist, Netlist}
use Rattle.cmb_design_model.specs.Design.{Design}
use Rattle.cmb_engine.proofs.ShareFacts.{drives-all}
use Rattle.cmb_engine.proofs.engine.Engine.open.Goals as goal

pub invariant_of-result : goal.invariant_of-result
invariant_of-result c =
    let same : c.netlist.result.now ≡ c.in_ok-share.share.design.netlist = c.netlist.ensures ∙ ap (λ (design : Design). design.netlist) (sym c.in_ok-share.ensures.design) in
    record {
      drives = drives-all c.in_ok-share.share (subst IsNetlist same c.len.ensures.sound) c.as_slice-2.result.now
          (c.as_slice-2.ensures.value ∙ c.in_ok-driven.ensures.items_if_clones_equal (λ y h. h)
          ∙ ap (λ count. replicate count true) (c.len.ensures.value ∙ ap (λ (netlist : Netlist). length netlist.names) same))
          (c.in_ok-share.ensures.driven ∙ c.as_slice.ensures.value ∙ sym c.as_slice-2.ensures.value) c.in_ok-share.ensures.told;
      width = c.in-Ok.ensures.width ∙ c.width.ensures.value;
      horizon = c.in-Ok.ensures.horizon ∙ ap (λ (design : Design). design.horizon) (sym c.in_ok-share.ensures.design);
    }
