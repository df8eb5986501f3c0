use Rattle.std.proofs.Common.{◌<◌, ◌∙◌, List, arith, length, sym}
use Rattle.cmb_wave.specs.declared.level.Change.{Change}
use Rattle.cmb_wave.specs.Waveform.{changes_between}
use Rattle.cmb_design_model.specs.Timing.{level_by}
use Rattle.cmb_design_model.specs.Inner.RowLevels.{told_at}
use Rattle.cmb_design_model.specs.declared.row_levels.RowLevels.{RowLevels}
use Rattle.cmb_design_model.proofs.CheckFacts.{get_some}
use Rattle.cmb_design_model.proofs.SettleFacts.{settling_end, settling_round, settling_start}
use Rattle.cmb_design_model.proofs.stimuli.settle_all.Goals as goal

abbrev changes : RowLevels → List Change
changes levels = changes_between (level_by (told_at levels)) 0 4294967296

pub loop-i-init : goal.loop-i-init
loop-i-init c = settling_start changes c.args.table.now.items

pub index_mut-requires : goal.index_mut-requires
index_mut-requires c = omega (arith, c.loop-i.invariant.nets, c.loop-i-test.true)

pub settle-requires : goal.settle-requires
settle-requires c =
    let within : c.loop-i.i < length c.loop-i.table.items = omega (arith, c.loop-i.invariant.nets, c.loop-i-test.true) in
    c.requires c.loop-i.i c.index_mut.result.now (sym (c.loop-i.invariant.left c.loop-i.i (omega arith)) ∙ get_some c.loop-i.table.items c.loop-i.i c.index_mut.result.now within c.index_mut.ensures.value)

pub loop-i-preserved : goal.loop-i-preserved
loop-i-preserved c =
    let within : c.loop-i.i < length c.loop-i.table.items = omega (arith, c.loop-i.invariant.nets, c.loop-i-test.true) in
    settling_round changes c.args.table.now.items c.loop-i.table.items c.loop-i.i c.index_mut.result.now c.settle.new.told c.loop-i.invariant within c.index_mut.ensures.value c.in_ok-settle.ensures

pub returns : goal.returns
returns c = settling_end changes c.args.table.now.items c.loop-i.table.items c.loop-i.i c.loop-i.invariant (omega (arith, c.loop-i.invariant.nets, c.loop-i-test.false))
