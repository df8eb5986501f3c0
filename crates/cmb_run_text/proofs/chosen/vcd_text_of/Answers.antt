use Rattle.std.proofs.Common.{◌≡◌, ◌∙◌, List, ap, arith, map}
use Rattle.std.proofs.lemmas.List.{length-map}
use Rattle.cmb_wave.specs.Wave.{Wave}
use Rattle.cmb_netlist.specs.Netlist.{Netlist, name_of}
use Rattle.cmb_run_text.specs.Chosen.{names_of}
use Rattle.cmb_run_text.specs.Collector.{collected_level, wave_of}
use Rattle.cmb_run_text.specs.Vcd.{text_of}
use Rattle.cmb_run_text.proofs.PartFacts.{written_whole}
use Rattle.cmb_run_text.proofs.TakenFacts.{exact_chosen, taken_text}
use Rattle.cmb_run_text.proofs.chosen.vcd_text_of.Goals as goal

pub returns : goal.returns
returns c =
    let design = c.args.design.now in
    let nets = c.args.nets.now in
    let chosen = map (wave_of c.args.collector.waves) nets in
    let names = names_of design.netlist nets in
    let told : c.push_part.new.out.items ≡ text_of names design.horizon (collected_level chosen) = (
    written_whole names (names_of c.netlist.result.now nets) design.horizon c.horizon-horizon.result chosen c.deref.result.now
    c.new-text.result.items c.push_chosen_header.new.out.items c.push_part.new.out.items
    (ap (λ (n : Netlist). names_of n nets) c.netlist.ensures) c.horizon-horizon.ensures.value
    (c.deref.ensures.value ∙ c.in_ok-waves.ensures ∙ ap (λ (ws : List Wave). map (wave_of ws) nets) c.into_waves.ensures) c.new-text.ensures.items
    (omega (arith, length-map nets (wave_of c.args.collector.waves), length-map nets (name_of design.netlist))) (omega (arith, c.horizon-horizon.ensures.small))
    c.in_ok-push_chosen_header.ensures c.in_ok-push_part.ensures
    ) in
    let text = told ∙ taken_text design c.args.collector.waves nets design.horizon in
    record {
      text = text;
      exact = λ exact. text ∙ exact_chosen design c.args.collector nets exact c.requires.complete c.requires.within;
    }
