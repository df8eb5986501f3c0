use Rattle.std.proofs.Common.{subst}
use Rattle.cmb_netlist.specs.Netlist.{IsNetlist}
use Rattle.cmb_count.proofs.LongestFacts.{end_within, longest_is}
use Rattle.cmb_count.proofs.paths.longest_path.Goals as goal

pub longest_to_outputs-least-requires-clause-sound : goal.longest_to_outputs-least-requires-clause-sound
longest_to_outputs-least-requires-clause-sound c = subst IsNetlist c.netlist.ensures c.len-nets.ensures.sound

pub longest_to_data-requires-clause-sound : goal.longest_to_data-requires-clause-sound
longest_to_data-requires-clause-sound c = subst IsNetlist c.netlist.ensures c.len-nets.ensures.sound

pub returns : goal.returns
returns c =
    let design = c.args.design.now in
    let sound : IsNetlist design.netlist = subst IsNetlist c.netlist.ensures c.len-nets.ensures.sound in
    longest_is design c.args.between c.in_ok-arrivals.arrivals c.longest_to_data.result sound c.in_ok-arrivals.ensures (λ net h. end_within c.args.between design net sound h) c.longest_to_data.ensures
