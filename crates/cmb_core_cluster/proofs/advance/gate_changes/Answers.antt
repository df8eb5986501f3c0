use Rattle.std.proofs.Common.{◌≡◌, ◌-◌, ◌∙◌, ap}
use Rattle.cmb_core_cluster.specs.Inner.Spans.{changes_from}
use Rattle.cmb_design_model.specs.Gate.{gate}
use Rattle.cmb_core_cluster.specs.Inner.Arrivals.{gate_at, pins_at}
use Rattle.cmb_core_cluster.specs.Inner.Processes.{gate_row}
use Rattle.cmb_core_cluster.proofs.Changes.{changes_from_same}
use Rattle.cmb_core_cluster.proofs.advance.gate_changes.Goals as goal

pub returns : goal.returns
returns c =
    let same : changes_from (gate_at c.args.kind c.deref_mut.result.now) c.args.span.before c.args.span.from (c.args.span.until - c.args.span.from)
    ≡ changes_from (gate_row c.args.kind c.args.waves.now c.args.operands.now) c.args.span.before c.args.span.from (c.args.span.until - c.args.span.from) =
    changes_from_same _ _ c.args.span.before c.args.span.from (c.args.span.until - c.args.span.from)
    (λ t low high. ap (gate c.args.kind) (ap (λ ps. pins_at ps t) c.deref_mut.ensures.value ∙ c.in_ok-pins.ensures.levels t low))
    in
    rw same at c.merge.ensures
