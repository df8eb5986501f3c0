use Rattle.cmb_run_text.proofs.CollectorFacts.{collected_in_place, new_waves_collected}
use Rattle.cmb_run_text.proofs.collector.Collector.open.Goals as goal

pub invariant_of-result : goal.invariant_of-result
invariant_of-result c = rw c.in_ok-waves.ensures (collected_in_place c.horizon.result _ (new_waves_collected c.horizon.result _))
