-- The shape of what may be a partition: lengths, and bounds of numbers.
use Rattle.std.specs.Prelude.{◌≡◌, ◌<◌, ◌^◌, length, All}
use Rattle.cmb_netlist.specs.Netlist.{IsNetlist, Netlist}
use Rattle.cmb_graph_partition.specs.declared.shares.Share.{Share}
use Rattle.cmb_graph_partition.specs.declared.shares.Partition.{Partition}

-- each net has an owner among the shares, and each share a mark for each net
pub record IsShaped (netlist : Netlist) (partition : Partition) : Type 0 where
  pub sound : IsNetlist netlist
  pub nets : length partition.owners.items ≡ length netlist.names
  pub crossed : length partition.crossing.items ≡ length netlist.names
  pub few : length partition.shares.items < 2 ^ 32
  pub below : All (λ owner. owner < length partition.shares.items) partition.owners.items
  pub marks : All (λ (share : Share). length share.driven.items ≡ length netlist.names) partition.shares.items
