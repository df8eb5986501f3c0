use Rattle.std.proofs.Common.{ℕ, ◌<◌, ◌≤◌, ◌%◌, List, arith, sym, subst, map}
use Rattle.std.specs.Prelude.{All}
use Rattle.std.proofs.lemmas.Nat.{mod_below}
use Rattle.std.proofs.lemmas.List.Elements.{All-map}
use Rattle.cmb_core_cluster.proofs.clustering.Clustering.merged.Goals as goal

all_below : (by : ℕ) (numbers : List ℕ) → 1 ≤ by → All (λ cluster. cluster < by) (map (λ number. number % by) numbers)
all_below by numbers some = All-map (λ cluster. cluster < by) (λ number. number % by) numbers (λ k d h. mod_below _ by (omega (arith, some)))

pub invariant_of-result : goal.invariant_of-result
invariant_of-result c =
    record {
      few = (c.requires.some, c.requires.few);
      each = omega arith;
      there = subst (λ assign. All (λ cluster. cluster < c.args.clusters) assign) (sym c.in_ok-remainders.ensures) (all_below c.args.clusters _ c.requires.some);
    }
