use Rattle.std.proofs.Common.{sym, subst}
use Rattle.cmb_design_model.specs.Design.{Design}
use Rattle.cmb_run_text.specs.Collector.{IsExactFor, new_waves}
use Rattle.cmb_design_model.specs.Exact.{nets_of}
use Rattle.cmb_run_text.proofs.ExactFacts.{new_exact}
use Rattle.cmb_run_rounds.proofs.collected.Collected.open.Goals as goal

pub invariant_of-result : goal.invariant_of-result
invariant_of-result g c =
    rw c.in_ok-collector.ensures
    (subst (λ (design : Design). IsExactFor g.T.ClusterRun.design (record { waves = new_waves (nets_of design); horizon = design.horizon })) (sym c.requires) (new_exact g.T.ClusterRun.design))
