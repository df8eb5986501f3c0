use Rattle.std.proofs.Common.{◌≡◌, ◌∙◌, ℕ, List, ap, arith, length, subst, sym}
use Rattle.cmb_design_model.specs.Exact.{nets_of}
use Rattle.cmb_engine.specs.Inner.Cells.{Cell}
use Rattle.cmb_engine.specs.Inner.Plans.{AreCells}
use Rattle.cmb_engine.proofs.PlanFacts.{cells-more, cells-none}
use Rattle.cmb_engine.proofs.plan.net_cells.Goals as goal

pub loop-net-preserved : goal.loop-net-preserved
loop-net-preserved c =
    let nets : c.push_net.new.lines.nets ≡ nets_of c.args.design.now = c.push_net.ensures.nets ∙ c.loop-net.invariant.nets in
    record {
      nets = nets;
      cells = cells-more c.args.design.now c.args.roles.now c.loop-net.net c.push_net.new.lines.nets _ _ _ _ _ _ nets
          c.loop-net.invariant.cells c.in_ok-push_net.ensures.grows c.in_ok-push_net.ensures.cell;
    }

pub loop-net-init : goal.loop-net-init
loop-net-init c = record {
  nets = c.requires;
  cells = subst (λ (cells : List Cell). AreCells c.args.design.now c.args.roles.now 0 cells c.args.lines.now.list.items c.args.lines.now.most) (sym c.in_ok-cells.ensures)
      (cells-none c.args.design.now c.args.roles.now c.args.lines.now.list.items c.args.lines.now.most);
}

pub returns-clause-cells : goal.returns-clause-cells
returns-clause-cells c =
    let all : c.loop-net.net ≡ nets_of c.args.design.now = omega (arith, c.loop-net-test.false, c.loop-net.auto.net-end, c.len-net-end.ensures.value, ap (λ n. length n.names) c.netlist-2.ensures) in
    subst (λ (n : ℕ). AreCells c.args.design.now c.args.roles.now n c.loop-net.cells c.loop-net.lines.list.items c.loop-net.lines.most) all c.loop-net.invariant.cells
