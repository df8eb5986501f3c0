use Rattle.std.specs.Prelude.{unwrap_or}
use Rattle.cmb_run_free.proofs.RunFacts.{stays_exact}
use Rattle.cmb_run_free.proofs.backlog.Backlog.take.Goals as goal

pub invariant_of-self : goal.invariant_of-self
invariant_of-self g c =
    stays_exact g.T.ClusterRun.design (unwrap_or c.self.inside.written 0) c.self.inside.collector c.take.new.self c.piece.result.now c.take.result c.self.invariant c.piece.ensures.exact c.take.ensures.ok c.take.ensures.unchanged
