use Rattle.std.proofs.Common.{◌<◌, ◌∙◌, arith, length, sym}
use Rattle.cmb_wave.proofs.Waveforms.{changes_between-rises}
use Rattle.cmb_design_model.specs.Timing.{stimulus}
use Rattle.cmb_design_model.proofs.AskFacts.{changes-at, length-changes, rises-within}
use Rattle.cmb_design_model.proofs.design.Design.told.Goals as goal

pub index-requires : goal.index-requires
index-requires c =
    let i = c.self.inside in
    let h : c.args.net < length i.netlist.names = rw (sym c.self.view_is) at c.requires in
    omega (arith, h, length-changes i.netlist i.stimuli 4294967296 i.tables.changes.items c.self.invariant.changes)

pub returns-clause-value : goal.returns-clause-value
returns-clause-value c =
    let i = c.self.inside in
    let h : c.args.net < length i.netlist.names = rw (sym c.self.view_is) at c.requires in
    let e = changes-at i.netlist i.stimuli 4294967296 i.tables.changes.items c.args.net c.index.result.now c.self.invariant.changes h c.index.ensures in
    rw (← c.self.view_is) (c.changes.ensures ∙ e)

pub returns-clause-rises : goal.returns-clause-rises
returns-clause-rises c =
    rw (returns-clause-value c) (rises-within 0 4294967296 _ (changes_between-rises (stimulus c.args.self.now c.args.net) 0 4294967296 (omega arith)))
