use Rattle.std.proofs.Common.{◌<◌, ◌∙◌, arith, length, sym}
use Rattle.cmb_design_model.specs.Inner.Inside.{seen}
use Rattle.cmb_design_model.proofs.PlaceFacts.{slot, slot_within}
use Rattle.cmb_design_model.proofs.AskFacts.{clock_read}
use Rattle.cmb_design_model.proofs.design.Design.clock.Goals as goal

pub index-requires : goal.index-requires
index-requires c =
    let h : c.args.net < length c.self.inside.netlist.names = rw (sym c.self.view_is) at c.requires in
    omega (arith, slot_within _ _ _ _ _ _ h c.self.invariant.own_clocks)

pub returns-clause-value : goal.returns-clause-value
returns-clause-value c =
    let i = c.self.inside in
    let h : c.args.net < length i.netlist.names = rw (sym c.self.view_is) at c.requires in
    let e = slot _ _ _ _ _ _ c.index.result.now h c.self.invariant.own_clocks c.index.ensures in
    rw (← c.self.view_is) (c.unwrap_or.ensures ∙ clock_read (seen i) c.args.net c.index.result.now c.clock_for_all.result e c.clock_for_all.ensures)
