use Rattle.std.proofs.Common.{◌≡◌, ◌++◌, take}
use Rattle.std.specs.List.{flat_map}
use Rattle.cmb_activity.specs.Texts.{header, net_row}
use Rattle.cmb_activity.proofs.text.table_of.Given as goal

abbrev pub invariant-loop-net : goal.invariant-loop-net
invariant-loop-net l = l.text.items ≡ header ++ flat_map (net_row l.design) (take l.net-index l.nets)
