use Rattle.std.proofs.Common.{refl}
use Rattle.cmb_wave.proofs.Forgets.{taken-from, heard-from, level_at-from, cut-from}
use Rattle.cmb_wave.proofs.Spans.{trace-rises}
use Rattle.cmb_wave.proofs.laws.forgetting_changes_no_answer.Goals as goal

pub returns : goal.returns
returns c = record {
  takes = taken-from;
  hears = λ wave promise upto. refl;
  heard = heard-from;
  tells = λ wave upto tick trace. level_at-from wave.kept wave.base wave.clock upto tick wave.changes (trace-rises _ _ _ _ trace);
  cuts = cut-from;
  promises = λ wave upto. refl;
}
