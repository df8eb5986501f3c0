use Rattle.std.proofs.Common.{◌<◌, ◌∙◌, arith, length, sym}
use Rattle.cmb_design_model.specs.Inner.Inside.{seen}
use Rattle.cmb_design_model.proofs.PlaceFacts.{slot, slot_within}
use Rattle.cmb_design_model.proofs.AskFacts.{level_read}
use Rattle.cmb_design_model.proofs.design.Design.init.Goals as goal

pub index-requires : goal.index-requires
index-requires c =
    let h : c.args.net < length c.self.inside.netlist.names = rw (sym c.self.view_is) at c.requires in
    omega (arith, slot_within _ _ _ _ _ _ h c.self.invariant.own_levels)

pub returns : goal.returns
returns c =
    let i = c.self.inside in
    let h : c.args.net < length i.netlist.names = rw (sym c.self.view_is) at c.requires in
    let e = slot _ _ _ _ _ _ c.index.result.now h c.self.invariant.own_levels c.index.ensures in
    rw (← c.self.view_is) (c.unwrap_or.ensures ∙ level_read (seen i) c.args.net c.index.result.now e)
