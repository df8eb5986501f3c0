use Rattle.std.proofs.Common.{◌≡◌, ◌≤◌, ◌∙◌, ap, arith}
use Rattle.cmb_netlist.specs.Netlist.{Netlist}
use Rattle.cmb_run_text.specs.Collector.{collected_level, least}
use Rattle.cmb_run_text.specs.Vcd.{text_of, vcd}
use Rattle.cmb_run_text.proofs.PartFacts.{exact_part, written_whole}
use Rattle.cmb_run_text.proofs.text.vcd_text.Goals as goal

pub returns : goal.returns
unfolding vcd
returns c =
    let design = c.args.design.now in
    let collector = c.args.collector.now in
    let told : c.push_part.new.out.items ≡ text_of design.netlist.names design.horizon (collected_level collector.waves) = (
    written_whole design.netlist.names c.netlist-2.result.now.names design.horizon c.horizon-horizon.result collector.waves c.waves.result.now
    c.new-text.result.items c.push_header.new.out.items c.push_part.new.out.items
    (ap (λ (n : Netlist). n.names) c.netlist-2.ensures) c.horizon-horizon.ensures.value c.waves.ensures.waves c.new-text.ensures.items c.requires.opened.nets (omega (arith, c.horizon-horizon.ensures.small))
    c.in_ok-push_header.ensures c.in_ok-push_part.ensures
    ) in
    record {
      text = told;
      exact = λ exact. let known : design.horizon ≤ least collector = omega (arith, exact.opened.horizon, c.requires.complete) in told ∙ exact_part design collector design.horizon exact known;
    }
