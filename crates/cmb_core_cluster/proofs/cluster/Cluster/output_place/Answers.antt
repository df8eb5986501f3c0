use Rattle.std.proofs.Common.{Some, None, if◌then◌else◌, sym, ◌∙◌, ap}
use Rattle.cmb_core_cluster.specs.Rows.{is_given}
use Rattle.cmb_core_cluster.specs.Clusters.{driven_only}
use Rattle.cmb_core_cluster.proofs.Slots.{slot_there}
use Rattle.cmb_core_cluster.proofs.cluster.Cluster.output_place.Goals as goal

pub returns-else-is_given-clause-there : goal.returns-else-is_given-clause-there
returns-else-is_given-clause-there c = slot_there _ _ _ (sym c.place.ensures.place ∙ c.in-Some.is)

pub returns-then-is_given-clause-place : goal.returns-then-is_given-clause-place
returns-then-is_given-clause-place c =
    let test = sym (ap (λ p. is_given p.rule) c.process.ensures) ∙ sym c.is_given.ensures ∙ c.if-is_given.true in
    sym (ap (driven_only c.args.self.now) (sym c.place.ensures.place ∙ c.in-Some.is) ∙ ap (λ b. if b then None else Some c.in-Some.slot) test)
