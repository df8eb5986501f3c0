use Rattle.std.proofs.Common.{◌≡◌}
use Rattle.cmb_design_model.specs.Exact.{IsExactIn}
use Rattle.links_stress.proofs.examples.links.put_at_last.Given as goal

abbrev pub invariant-loop : goal.invariant-loop
invariant-loop g l = record {
  exact : IsExactIn l.out.pass.design l.piece;
  same : l.out.pass.design ≡ l.initial.out.pass.design;
}
