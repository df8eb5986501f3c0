use Rattle.std.proofs.Common.{Some, None, if◌then◌else◌, sym, ◌∙◌, ap}
use Rattle.cmb_core_cluster.specs.Rows.{is_given}
use Rattle.cmb_core_cluster.specs.Clusters.{given_only}
use Rattle.cmb_core_cluster.proofs.Slots.{slot_there}
use Rattle.cmb_core_cluster.proofs.cluster.Cluster.input_place.Goals as goal

pub returns-then-is_given-clause-there : goal.returns-then-is_given-clause-there
returns-then-is_given-clause-there c = slot_there _ _ _ (sym c.place.ensures.place ∙ c.in-Some.is)

pub returns-else-is_given-clause-place : goal.returns-else-is_given-clause-place
returns-else-is_given-clause-place c =
    let test = sym (ap (λ p. is_given p.rule) c.process.ensures) ∙ sym c.is_given.ensures ∙ c.if-is_given.false in
    sym (ap (given_only c.args.self.now) (sym c.place.ensures.place ∙ c.in-Some.is) ∙ ap (λ b. if b then Some c.in-Some.slot else None) test)
