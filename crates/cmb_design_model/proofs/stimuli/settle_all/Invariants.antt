use Rattle.cmb_wave.specs.Waveform.{changes_between}
use Rattle.cmb_design_model.specs.Timing.{level_by}
use Rattle.cmb_design_model.specs.Inner.RowLevels.{told_at}
use Rattle.cmb_design_model.proofs.SettleFacts.{Settling}
use Rattle.cmb_design_model.proofs.stimuli.settle_all.Given as goal

abbrev pub invariant-loop-i : goal.invariant-loop-i
invariant-loop-i l = Settling (λ levels. changes_between (level_by (told_at levels)) 0 4294967296) l.initial.table.items l.table.items l.i
