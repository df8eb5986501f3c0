use Rattle.std.proofs.Common.{sym, ◌∙◌, subst}
use Rattle.cmb_core_cluster.specs.Trims.{IsTrimOf}
use Rattle.worked_core.proofs.trims.trim_and_hear.Goals as goal

pub returns : goal.returns
returns c = λ design clustering number exact.
    let law = c.trims_change_no_answer.ensures in
    let traces = law.traces design clustering number c.args.cluster.now exact in
    let less : IsTrimOf c.args.cluster.now c.trim.new.self = subst (IsTrimOf c.args.cluster.now) (sym c.trim.ensures.trimmed) (law.trims c.args.cluster.now c.args.cluster.now traces (law.same c.args.cluster.now)) in
    c.hear.ensures.answer ∙ law.hears c.args.cluster.now c.trim.new.self c.args.promise less
