use Rattle.std.proofs.Common.{◌∙◌}
use Rattle.cmb_design_model.specs.Timing.{stimulus}
use Rattle.cmb_core_cluster.proofs.OpeningFacts.{input_starts}
use Rattle.cmb_core_cluster.proofs.open.input_node.Goals as goal

pub returns-clause-starts : goal.returns-clause-starts
returns-clause-starts c = λ places.
    rw (c.new-2.ensures, c.new.ensures.items)
    (input_starts c.args.design.now.horizon places (stimulus c.args.design.now c.args.net) c.in_ok-stimulus.stimulus.items (c.in_ok-stimulus.ensures.items ∙ c.stim_changes.ensures))
