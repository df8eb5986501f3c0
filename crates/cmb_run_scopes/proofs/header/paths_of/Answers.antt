use Rattle.std.proofs.Common.{◌∙◌, ap, map, sym}
use Rattle.std.proofs.lemmas.List.{take_all}
use Rattle.cmb_netlist.specs.Netlist.{name_of}
use Rattle.cmb_run_scopes.specs.Scopes.{parts}
use Rattle.cmb_run_scopes.proofs.GroupFacts.{map_twice}
use Rattle.cmb_run_scopes.proofs.header.paths_of.Goals as goal

pub returns : goal.returns
returns c =
    c.loop-net.invariant ∙ ap (map (λ net. parts (name_of c.args.netlist.now net))) (take_all c.loop-net.net-index c.args.nets.now c.loop-net-test.false)
    ∙ sym (map_twice (name_of c.args.netlist.now) parts c.args.nets.now)
