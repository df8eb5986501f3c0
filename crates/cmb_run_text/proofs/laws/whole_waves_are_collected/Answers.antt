use Rattle.cmb_run_text.proofs.ExactFacts.{whole_waves_complete, whole_waves_exact}
use Rattle.cmb_run_text.proofs.laws.whole_waves_are_collected.Goals as goal

pub returns : goal.returns
returns c = record { exact = whole_waves_exact; complete = whole_waves_complete }
