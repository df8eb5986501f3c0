use Rattle.std.proofs.Common.{ℕ, ◌<◌, ◌≤◌, ◌%◌, List, arith, map, sym, subst}
use Rattle.std.specs.Prelude.{All}
use Rattle.std.specs.List.{range_with_len}
use Rattle.std.proofs.lemmas.Nat.{mod_below}
use Rattle.std.proofs.lemmas.List.Elements.{All-map}
use Rattle.cmb_core_cluster.proofs.clustering.Clustering.round_robin.Goals as goal

all_below : (many nets : ℕ) → 1 ≤ many → All (λ cluster. cluster < many) (map (λ net. net % many) (range_with_len 0 nets))
all_below many nets some = All-map (λ cluster. cluster < many) (λ net. net % many) (range_with_len 0 nets) (λ k d h. mod_below _ many (omega (arith, some)))

pub invariant_of-result : goal.invariant_of-result
invariant_of-result c =
    let many : ℕ = c.args.clusters.count in
    record {
      few = (c.args.clusters.some, c.args.clusters.few);
      each = omega arith;
      there = subst (λ assign. All (λ cluster. cluster < many) assign) (sym c.in_ok-in_turn.ensures) (all_below many c.args.nets c.args.clusters.some);
    }
