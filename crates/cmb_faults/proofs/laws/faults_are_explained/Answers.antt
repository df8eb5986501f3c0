use Rattle.cmb_faults.proofs.Explained.{explained, of_fault}
use Rattle.cmb_faults.proofs.laws.faults_are_explained.Goals as goal

pub returns : goal.returns
returns c = record { explained = explained; is_fault = of_fault }
