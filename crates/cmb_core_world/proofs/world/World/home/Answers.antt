use Rattle.std.proofs.Common.{◌≡◌, ◌<◌, ℕ, length, get_or, arith, sym, ◌∙◌, ap, subst}
use Rattle.std.proofs.lemmas.List.{get_or_read}
use Rattle.std.proofs.lemmas.Option.{slice_get_past}
use Rattle.cmb_core_cluster.specs.Clusters.{IsDrivenHere}
use Rattle.cmb_core_world.specs.Play.{World, cluster_at, HasDesign}
use Rattle.cmb_core_world.proofs.Plays.{driven_at}
use Rattle.cmb_core_world.proofs.world.World.home.Goals as goal

pub returns-then-place-len-clause-drives : goal.returns-then-place-len-clause-drives
returns-then-place-len-clause-drives c =
    let listed : c.args.net < length c.self.inside.assign.items = omega arith in
    let inner : c.args.net < length c.args.self.now.assign = omega (arith, ap (λ w. length w.assign) c.self.view_is) in
    let which : get_or c.args.self.now.assign c.args.net 0 ≡ c.index.result.now = sym (get_or_read _ _ _ listed c.index.ensures 0 ∙ ap (λ w. get_or w.assign c.args.net 0) c.self.view_is) in
    let H : World → Type 0 = λ w. HasDesign w in
    let D : ℕ → Type 0 = λ k. IsDrivenHere (cluster_at c.args.self.now k) c.args.net in
    subst D which (driven_at c.args.self.now (subst H c.self.view_is c.self.invariant) c.args.net inner)

pub returns-else-place-len-clause-place : goal.returns-else-place-len-clause-place
returns-else-place-len-clause-place c =
    sym (slice_get_past c.args.self.now.assign c.args.net (omega (arith, ap (λ w. length w.assign) c.self.view_is)))
