use Rattle.std.proofs.Common.{refl}
use Rattle.cmb_run_text.specs.Vcd.{code_within, code}
use Rattle.cmb_run_text.proofs.examples.codes_of_nets.Goals as goal

pub returns : goal.returns
unfolding code_within code
returns c = record { net_0 = refl; net_1 = refl; net_93 = refl; net_94 = refl; net_95 = refl; net_188 = refl; net_65534 = refl }
