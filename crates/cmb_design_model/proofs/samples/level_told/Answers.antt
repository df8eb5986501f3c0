use Rattle.std.proofs.Common.{◌≡◌, arith, false, get_or, nat_le, rules, suc, sym, true}
use Rattle.std.proofs.lemmas.Bool.Decides.{nat_tests}
use Rattle.std.proofs.lemmas.List.Sorted.{IsPartitionPoint-from_clause, IsPartitionedBy-leb}
use Rattle.cmb_wave.specs.declared.level.Level.TheVariants.{X}
use Rattle.cmb_wave.specs.Waveform.{below}
use Rattle.cmb_wave.proofs.Lists.{below_at_point, level_at_below, ticks_ascend}
use Rattle.cmb_design_model.proofs.samples.level_told.Goals as goal

pub returns : goal.returns
returns c =
    let cs = c.args.changes.now in
    let tick = c.args.tick in
    let parted = IsPartitionedBy-leb (λ change. change.tick) cs tick (ticks_ascend 0 cs c.requires) in
    let point = IsPartitionPoint-from_clause (λ change. nat_le change.tick tick) cs _ c.partition_point-count.ensures.partitioned parted (search rules) in
    let count : c.partition_point-count.result ≡ below (suc tick) cs = below_at_point (suc tick) cs _ c.partition_point-count.ensures.bound (
      λ k d low high. let e : nat_le (get_or cs k d).tick tick ≡ true = point.0 k d low high in grind (arith, nat_tests),
      λ k d low high. let e : nat_le (get_or cs k d).tick tick ≡ false = point.1 k d low high in grind (arith, nat_tests),
    ) in
    rw (c.level_after.ensures, count) (sym (level_at_below X tick cs))
