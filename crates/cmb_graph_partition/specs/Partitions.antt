-- The nets of a netlist partitioned among logical processes. A share drives the nets that it owns and, up to flip-flops, those that these
-- read; so gates may be replicated, and what crosses from one share to another are flip-flops alone (H. Wang and S. Beamer, RepCut:
-- Superlinear parallel RTL simulation with replication-aided partitioning, ASPLOS 2023).
use Rattle.std.specs.Prelude.{◌≡◌, ◌⊎◌, ℕ, ◌<◌, ◌^◌, if◌then◌else◌, true, false, List, length, map, slice_get, slice_index, slice_index_or, sum, Some, IfSome, All}
use Rattle.std.specs.List.{range_with_len}
use Rattle.cmb_netlist.specs.Netlist.{Netlist, driver_of, pins_of}
use Rattle.cmb_netlist.specs.declared.netlist.Driver.TheVariants.{Flop}
use Rattle.cmb_graph_partition.specs.declared.shares.Share.{Share}
use Rattle.cmb_graph_partition.specs.declared.shares.Partition.{Partition}

-- a share owns a net
abbrev pub Owns : Partition → Share → ℕ → Type 0
Owns partition share net = slice_get partition.shares.items (slice_index partition.owners.items net) ≡ Some share

abbrev pub Drives : Share → ℕ → Type 0
Drives share net = slice_index_or share.driven.items net false ≡ true

-- the share of a number drives a net
abbrev pub ShareDrives : Partition → ℕ → ℕ → Type 0
ShareDrives partition number net = IfSome (slice_get partition.shares.items number) (λ (share : Share). Drives share net)

-- a net is marked as one that shares are given by its owner
abbrev pub Crosses : Partition → ℕ → Type 0
Crosses partition net = slice_index_or partition.crossing.items net false ≡ true

-- the share of a number knows a net: it drives it or is given it
abbrev pub Knows : Partition → ℕ → ℕ → Type 0
Knows partition number net = ShareDrives partition number net ⊎ Crosses partition net

-- it knows all nets that the value rules of those ask for that it drives
abbrev pub KnowsAll : Netlist → Partition → ℕ → Type 0
KnowsAll netlist partition number =
    (net : ℕ) → net < length netlist.names → ShareDrives partition number net → All (Knows partition number) (pins_of (driver_of netlist net))

-- a net is driven by a flip-flop
abbrev pub IsFlop : Netlist → ℕ → Type 0
IsFlop netlist net = (source : ℕ) × (driver_of netlist net ≡ Flop source)

-- each net has one owner, which drives it; a share knows all nets that the value rules of those ask for that it drives; and what crosses are
-- flip-flops
pub record IsPartition (netlist : Netlist) (partition : Partition) : Type 0 where
  pub nets : length partition.owners.items ≡ length netlist.names
  pub crossed : length partition.crossing.items ≡ length netlist.names
  pub few : length partition.shares.items < 2 ^ 32
  pub marks : All (λ (share : Share). length share.driven.items ≡ length netlist.names) partition.shares.items
  pub owned : (net : ℕ) → net < length netlist.names → (owner : Share) × Owns partition owner net × Drives owner net
  pub known : (number : ℕ) → number < length partition.shares.items → KnowsAll netlist partition number
  pub sampled : (net : ℕ) → net < length netlist.names → Crosses partition net → IsFlop netlist net

-- what it costs to compute the nets that a share drives, by what each net costs
abbrev pub load_of : List ℕ → Share → ℕ
load_of costs share = sum (map (λ net. if (slice_index_or share.driven.items net false) then (slice_index_or costs net 0) else 0) (range_with_len 0 (length costs)))

-- what it costs to compute each net once
abbrev pub total_of : List ℕ → ℕ
total_of costs = sum (map (λ net. slice_index_or costs net 0) (range_with_len 0 (length costs)))
