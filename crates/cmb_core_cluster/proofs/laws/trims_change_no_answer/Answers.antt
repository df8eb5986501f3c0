use Rattle.std.proofs.Common.{refl}
use Rattle.cmb_core_cluster.proofs.TrimLaws.{trims_same, exact_traces, trimmed_again, step_alike, step_trims, delivered_alike, heard_alike, heard_trims, trims_with}
use Rattle.cmb_core_cluster.proofs.laws.trims_change_no_answer.Goals as goal

pub returns : goal.returns
returns c = record {
  same = λ s. record { horizon = refl; processes = refl; waves = trims_same s.waves };
  traces = λ design clustering cluster s exact. exact_traces design s.waves exact.waves;
  trims = trimmed_again;
  steps = λ design clustering cluster s less net of sound traces t own. step_alike design clustering cluster s less of sound traces t net own;
  stepped = λ design clustering cluster s less net of sound traces t own. step_trims design clustering cluster s less of sound traces t net own;
  delivers = delivered_alike;
  hears = heard_alike;
  heard = heard_trims;
  put = trims_with;
}
