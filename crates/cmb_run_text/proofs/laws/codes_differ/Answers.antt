use Rattle.cmb_run_text.proofs.Codes.{code-differs}
use Rattle.cmb_run_text.proofs.laws.codes_differ.Goals as goal

pub returns : goal.returns
returns c = code-differs
