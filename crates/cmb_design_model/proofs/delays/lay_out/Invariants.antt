use Rattle.std.proofs.Common.{◌≡◌, map}
use Rattle.std.specs.List.{range_with_len}
use Rattle.cmb_design_model.specs.Inner.Tables.{start}
use Rattle.cmb_design_model.proofs.delays.lay_out.Given as goal

abbrev pub invariant-loop-net : goal.invariant-loop-net
invariant-loop-net l = (l.starts.items ≡ map (start l.netlist) (range_with_len 0 l.net)) × (l.next ≡ start l.netlist l.net)
