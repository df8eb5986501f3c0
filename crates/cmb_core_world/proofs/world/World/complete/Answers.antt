use Rattle.std.proofs.Common.{◌≡◌, ℕ, inl, inr, arith, sym, ◌∙◌, subst}
use Rattle.std.proofs.lemmas.Bool.{cases_lt, eqb-true}
use Rattle.cmb_core_world.specs.Play.{shown}
use Rattle.cmb_core_world.specs.World.{out_wave}
use Rattle.cmb_core_world.proofs.world.World.complete.Goals as goal

pub loop-net-preserved : goal.loop-net-preserved
loop-net-preserved c = λ design clustering of net h.
    let known : (out_wave clustering (shown c.args.self.now) c.loop-net.net).clock ≡ design.horizon = eqb-true _ _ (sym (c.is_known.ensures design clustering of) ∙ c.if-not-is_known.false) in
    let P : ℕ → Type 0 = λ n. (out_wave clustering (shown c.args.self.now) n).clock ≡ design.horizon in
    elim (cases_lt net c.loop-net.net) as (λ _. P net) [
      | inl less ↦ c.loop-net.invariant design clustering of net less
      | inr past ↦ let same : c.loop-net.net ≡ net = omega arith in subst P same known
    ]
