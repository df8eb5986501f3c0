use Rattle.std.proofs.Common.{◌≡◌, ◌∙◌, ap, arith, sym}
use Rattle.std.specs.Cmp.Lexicographic.{bytes_decides}
use Rattle.cmb_netlist.specs.Netlist.{number_of}
use Rattle.cmb_netlist.proofs.Names.{number-name_of}
use Rattle.cmb_design_model.proofs.stimuli.number_of.Goals as goal

pub returns-then-eq-clause-value : goal.returns-then-eq-clause-value
returns-then-eq-clause-value c =
    let netlist = c.args.netlist.now in
    let same : c.name.result.now ≡ c.args.name.now = (bytes_decides c.name.result.now c.args.name.now).0 (sym c.eq.ensures ∙ c.if-eq.true) in
    sym (number-name_of netlist c.args.likely c.len.ensures.sound.different_names (omega (arith, c.len.ensures.value, c.if-likely-len.true))) ∙ ap (number_of netlist) (sym c.name.ensures ∙ same)
