use Rattle.std.proofs.Common.{◌≡◌, ℕ, zero, suc, ◌<◌, [], ◌∷◌, ◌++◌, get_or, arith, sym, ◌∙◌, ap, subst}
use Rattle.std.proofs.Common.{List}
use Rattle.cmb_core_cluster.specs.Clusters.{Cluster}
use Rattle.cmb_core_cluster.specs.Opened.{IsClusterOf}
use Rattle.worked_core.proofs.worlds.world_with.Goals as goal

each_of_two : (C : ℕ → Cluster → Type 0) (a b d : Cluster) → C 0 a → C 1 b → (k : ℕ) → k < 2 → C k (get_or (a ∷ b ∷ []) k d)
each_of_two C a b d first second zero h = first
each_of_two C a b d first second (suc zero) h = second
each_of_two C a b d first second (suc (suc k)) h = absurd (omega arith)

pub of-requires-clause-each : goal.of-requires-clause-each
of-requires-clause-each c = λ k h.
    let items : c.push-2.new.self.items ≡ c.in_ok-first.first ∷ c.args.second ∷ [] = c.in_ok-push-2.ensures.items ∙ ap (λ xs. xs ++ c.args.second ∷ []) (c.in_ok-push.ensures.items ∙ ap (λ xs. xs ++ c.in_ok-first.first ∷ []) c.in_ok-clusters.ensures.items) in
    let P : List Cluster → Type 0 = λ xs. IsClusterOf c.args.design.now c.args.clustering.now k (get_or xs k (record { horizon = 0; processes = []; waves = [] })) in
    subst P (sym items) (each_of_two (λ i s. IsClusterOf c.args.design.now c.args.clustering.now i s) c.in_ok-first.first c.args.second (record { horizon = 0; processes = []; waves = [] }) c.in_ok-first.ensures.of c.requires.second k (omega (arith, c.requires.two)))
