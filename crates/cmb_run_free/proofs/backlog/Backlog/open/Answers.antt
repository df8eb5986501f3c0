use Rattle.std.proofs.Common.{sym, subst}
use Rattle.cmb_design_model.specs.Design.{Design}
use Rattle.cmb_design_model.specs.Exact.{nets_of}
use Rattle.cmb_run_text.specs.Collector.{IsExactFrom, new_waves}
use Rattle.cmb_run_text.proofs.ExactFacts.{new_exact, whole_from}
use Rattle.cmb_run_free.proofs.backlog.Backlog.open.Goals as goal

pub invariant_of-result : goal.invariant_of-result
invariant_of-result g c =
    rw c.in_ok-collector.ensures
    (subst (λ (design : Design). IsExactFrom g.T.ClusterRun.design 0 (record { waves = new_waves (nets_of design); horizon = design.horizon })) (sym c.requires) (whole_from g.T.ClusterRun.design 0 _ (new_exact g.T.ClusterRun.design)))
