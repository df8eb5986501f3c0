use Rattle.std.proofs.Common.{◌≡◌, ◌-◌, ap, ◌∙◌, arith}
use Rattle.cmb_netlist.specs.Netlist.{Netlist, name_of}
use Rattle.cmb_design_model.specs.Value.{count}
use Rattle.cmb_activity.proofs.text.push_net.Goals as goal

pub returns : goal.returns
returns c =
    let counted = c.requires.counted in
    let name : c.name.result.now ≡ name_of c.args.design.now.netlist c.args.net = c.name.ensures ∙ ap (λ (netlist : Netlist). name_of netlist c.args.net) c.netlist.ensures in
    let changes : c.args.activity.changes ≡ count c.args.design.now c.args.net c.args.design.now.horizon - count c.args.design.now c.args.net 1 = omega (arith, counted.changes) in
    rw (name, changes, counted.low, counted.high, counted.unknown) at c.push_row.ensures
