use Rattle.std.proofs.Common.{nat_lt, rules}
use Rattle.std.proofs.lemmas.List.Sorted.{IsPartitionPoint-from_clause, IsPartitionedBy-ltb}
use Rattle.cmb_wave.proofs.Lists.{ticks_ascend, below_at_point}
use Rattle.cmb_wave.proofs.search.count_below.Goals as goal

pub returns-clause-count : goal.returns-clause-count
returns-clause-count c =
    let parted = IsPartitionedBy-ltb (λ change. change.tick) _ c.args.tick (ticks_ascend 0 _ c.requires) in
    below_at_point c.args.tick _ _ c.partition_point.ensures.bound
    (IsPartitionPoint-from_clause (λ change. nat_lt change.tick c.args.tick) _ _ c.partition_point.ensures.partitioned parted (λ a r f' call. search rules))
