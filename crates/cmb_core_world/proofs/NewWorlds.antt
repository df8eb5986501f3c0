-- Newly opened clusters are those of the new world.
use Rattle.std.proofs.Common.{◌≡◌, ℕ, zero, suc, ◌+◌, ◌<◌, ◌≤◌, Bool, ◌||◌, true, false, cond, length, List, [], ◌∷◌, ◌++◌, ◌⊎◌, inl, inr, map, get_or, refl, sym, ◌∙◌, ap, subst, arith, add-one}
use Rattle.std.specs.Prelude.{filter}
use Rattle.std.specs.List.{range_with_len}
use Rattle.std.proofs.lemmas.Bool.{cases_lt}
use Rattle.std.proofs.lemmas.List.{get_or_push, get_or_append_left, map-append}
use Rattle.cmb_wave.specs.Wave.{new_wave}
use Rattle.cmb_design_model.specs.Design.{Design}
use Rattle.cmb_design_model.specs.Exact.{nets_of}
use Rattle.cmb_core_cluster.specs.Clustering.{Clustering, has_input}
use Rattle.cmb_core_cluster.specs.Clusters.{Cluster}
use Rattle.cmb_core_cluster.specs.Opened.{IsClusterOf, is_own, held_nets}
use Rattle.cmb_core_world.specs.World.{new_waves, new_clusters}

new_waves_from : (design : Design) (clustering : Clustering) (cluster net nets : ℕ) → map new_wave (filter (λ n. is_own clustering cluster n || has_input design clustering cluster n) (range_with_len net nets)) ≡ new_waves design clustering cluster net nets
new_waves_from design clustering cluster net zero = refl
new_waves_from design clustering cluster net (suc nets) = go (is_own clustering cluster net || has_input design clustering cluster net) (rw add-one (new_waves_from design clustering cluster (suc net) nets))
  where
    go : (b : Bool) → map new_wave (filter (λ n. is_own clustering cluster n || has_input design clustering cluster n) (range_with_len (net + 1) nets)) ≡ new_waves design clustering cluster (suc net) nets
        → map new_wave (cond b (net ∷ filter (λ n. is_own clustering cluster n || has_input design clustering cluster n) (range_with_len (net + 1) nets)) (filter (λ n. is_own clustering cluster n || has_input design clustering cluster n) (range_with_len (net + 1) nets)))
        ≡ cond b (new_wave net ∷ new_waves design clustering cluster (suc net) nets) (new_waves design clustering cluster (suc net) nets)
    go true e = ap (λ ws. new_wave net ∷ ws) e
    go false e = e

pub new_waves_held : (design : Design) (clustering : Clustering) (cluster : ℕ) → map new_wave (held_nets design clustering cluster) ≡ new_waves design clustering cluster 0 (nets_of design)
new_waves_held design clustering cluster = new_waves_from design clustering cluster 0 (nets_of design)

new_clusters_push : (design : Design) (clustering : Clustering) (cluster many last : ℕ) → last ≡ cluster + many → new_clusters design clustering cluster (suc many) ≡ new_clusters design clustering cluster many ++ new_waves design clustering last 0 (nets_of design) ∷ []
new_clusters_push design clustering cluster zero last e = let same : cluster ≡ last = omega arith in ap (λ c. new_waves design clustering c 0 (nets_of design) ∷ []) same
new_clusters_push design clustering cluster (suc many) last e = ap (λ cs. new_waves design clustering cluster 0 (nets_of design) ∷ cs) (new_clusters_push design clustering (suc cluster) many last (omega arith))

-- one more cluster
pub new_clusters_more : (design : Design) (clustering : Clustering) (clusters : List Cluster) (s : Cluster) (many : ℕ) → map (λ (cluster : Cluster). cluster.waves) clusters ≡ new_clusters design clustering 0 many → s.waves ≡ map new_wave (held_nets design clustering many)
    → map (λ (cluster : Cluster). cluster.waves) (clusters ++ s ∷ []) ≡ new_clusters design clustering 0 (many + 1)
new_clusters_more design clustering clusters s many e new =
    map-append (λ (cluster : Cluster). cluster.waves) clusters (s ∷ []) ∙ ap (λ cs. cs ++ s.waves ∷ []) e
    ∙ ap (λ ws. new_clusters design clustering 0 many ++ ws ∷ []) (new ∙ new_waves_held design clustering many)
    ∙ sym (new_clusters_push design clustering 0 many many (omega arith)) ∙ ap (new_clusters design clustering 0) (sym (add-one many))

pub each_more : (design : Design) (clustering : Clustering) (clusters : List Cluster) (s : Cluster) (many : ℕ) → length clusters ≡ many
    → ((k : ℕ) → k < many → IsClusterOf design clustering k (get_or clusters k (record { horizon = 0; processes = []; waves = [] }))) → IsClusterOf design clustering many s
    → (k : ℕ) → k < many + 1 → IsClusterOf design clustering k (get_or (clusters ++ s ∷ []) k (record { horizon = 0; processes = []; waves = [] }))
each_more design clustering clusters s many count each last k h = go (cases_lt k many)
  where
    C : ℕ → Cluster → Type 0
    C i v = IsClusterOf design clustering i v

    go : (k < many) ⊎ (many ≤ k) → IsClusterOf design clustering k (get_or (clusters ++ s ∷ []) k (record { horizon = 0; processes = []; waves = [] }))
    go (inl less) = subst (λ v. IsClusterOf design clustering k v) (sym (get_or_append_left clusters (s ∷ []) (record { horizon = 0; processes = []; waves = [] }) k (omega arith))) (each k less)
    go (inr past) =
        let here : many ≡ k = omega arith in
        subst (λ v. IsClusterOf design clustering k v) (sym (get_or_push clusters s (record { horizon = 0; processes = []; waves = [] }) k (omega arith))) (subst (λ i. IsClusterOf design clustering i s) here last)
