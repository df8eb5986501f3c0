use Rattle.std.proofs.Common.{◌≡◌, ◌+◌, ◌<◌, sym, refl, ap, ◌∙◌, arith, suc}
use Rattle.cmb_wave.specs.Waveform.{level_before}
use Rattle.cmb_wave.proofs.Waveforms.{changes_between-same}
use Rattle.cmb_design_model.specs.Value.{value}
use Rattle.cmb_design_model.proofs.PlainFacts.{cell_told, cell_within, changes-more}
use Rattle.cmb_design_model.proofs.plain.collect_changes.Goals as goal

pub loop-tick-init : goal.loop-tick-init
loop-tick-init c = record {
  changes = c.clear.ensures.items ∙ sym (changes_between-same (value c.args.design.now c.args.net) 0);
  before = refl;
}

pub level-level-requires : goal.level-level-requires
level-level-requires c =
    let below : c.loop-tick.tick < c.args.design.now.horizon = omega (arith, c.horizon-tick-end.ensures.value) in
    cell_within c.args.design.now c.args.table.now c.args.design.now.horizon c.args.net c.loop-tick.tick c.requires.filled c.requires.net below

pub loop-tick-preserved : goal.loop-tick-preserved
loop-tick-preserved c =
    let below : c.loop-tick.tick < c.args.design.now.horizon = omega (arith, c.horizon-tick-end.ensures.value) in
    let now : c.level-level.result ≡ value c.args.design.now c.args.net c.loop-tick.tick =
    cell_told c.args.design.now c.args.table.now c.args.design.now.horizon c.args.net c.loop-tick.tick c.requires.filled c.requires.net below c.level-level.result c.level-level.ensures in
    record {
      changes = changes-more (value c.args.design.now c.args.net) c.loop-tick.tick _ _ _ _ c.loop-tick.invariant.changes c.loop-tick.invariant.before now c.in_ok-push_change.ensures;
      before = let more : c.loop-tick.tick + 1 ≡ suc c.loop-tick.tick = omega arith in now ∙ sym (ap (level_before (value c.args.design.now c.args.net)) more);
    }
