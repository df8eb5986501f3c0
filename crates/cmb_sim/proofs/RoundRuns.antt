-- The nets of a design spread over clusters.
use Rattle.std.proofs.Common.{◌≡◌, ℕ, length, subst, sym}
use Rattle.std.specs.Prelude.{◌%◌}
use Rattle.std.proofs.lemmas.List.FromFn.{length-map-range_with_len}
use Rattle.cmb_core_cluster.specs.Assigns.{round_robin}
use Rattle.cmb_core_cluster.specs.Clustering.{Clustering}

pub round_robin-nets : (nets many : ℕ) (k : Clustering) → k ≡ round_robin nets many → length k.assign ≡ nets
round_robin-nets nets many k is =
    subst (λ (c : Clustering). length c.assign ≡ nets) (sym is) (length-map-range_with_len (λ net. net % many) 0 nets)
