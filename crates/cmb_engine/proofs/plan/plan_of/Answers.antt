use Rattle.std.proofs.Common.{◌≡◌, ℕ, ◌≤◌, List, ◌++◌, length, sym, subst, ap, ◌∙◌, arith}
use Rattle.std.specs.Prelude.{All, replicate}
use Rattle.cmb_netlist.specs.Netlist.{Netlist}
use Rattle.cmb_design_model.specs.Exact.{nets_of}
use Rattle.cmb_engine.specs.Inner.Cells.{Cell, Told}
use Rattle.cmb_engine.specs.Inner.Plans.{AreLines}
use Rattle.cmb_engine.specs.Inner.Traces.{IsPlan}
use Rattle.cmb_engine.specs.declared.cell.Pin.{Pin}
use Rattle.cmb_engine.proofs.PlanFacts.{plan-is}
use Rattle.cmb_engine.proofs.plan.plan_of.Goals as goal

pub returns-clause-plan : goal.returns-clause-plan
returns-clause-plan c =
    let design = c.args.design.now in
    let lines = c.net_cells.new.lines in
    let width : ℕ = c.width_of.result in
    let nets : lines.nets ≡ nets_of design =
    c.net_cells.ensures.nets ∙ c.new-lines.ensures.nets ∙ c.len.ensures.value ∙ ap (λ (netlist : Netlist). length netlist.names) c.netlist.ensures in
    let count : c.len-2.result ≡ length lines.list.items = omega (arith, c.len-2.ensures) in
    let cells : c.push_told_ones.new.self ≡ c.in_ok-cells.cells ++ replicate (length lines.list.items) Told =
    c.in_ok-push_told_ones.ensures ∙ ap (λ (n : ℕ). c.in_ok-cells.cells ++ replicate n Told) count in
    let sooner : All (λ (line : Pin). width ≤ line.delay) lines.list.items =
    subst (λ (list : List Pin). All (λ line. width ≤ line.delay) list) c.deref.ensures.value c.width_of.ensures.lines in
    subst (λ (all : List Cell). IsPlan design c.args.roles.now lines.list.items lines.most width all) (sym cells)
    (plan-is design c.args.roles.now lines.list.items lines.most c.in_ok-cells.cells c.requires c.in_ok-cells.ensures.cells width
    (subst (λ (n : ℕ). AreLines n lines.list.items lines.most) nets lines.lawful)
    c.width_of.ensures.fits (omega (arith, c.width_of.ensures.wide)) sooner)
