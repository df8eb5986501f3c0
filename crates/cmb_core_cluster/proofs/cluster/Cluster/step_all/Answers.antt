use Rattle.std.proofs.Common.{◌+◌, ◌<◌, ◌≤◌, ◌||◌, Bool, length, arith, sym, ◌∙◌, ap, subst}
use Rattle.std.specs.Prelude.{is_some}
use Rattle.cmb_core_cluster.specs.Clusters.{Cluster}
use Rattle.cmb_core_cluster.specs.Opened.{held_nets}
use Rattle.cmb_core_cluster.specs.Sweep.{some_rises, stepped_waves}
use Rattle.cmb_core_cluster.proofs.NetByNet.{all_own, first_own, held_as_waves, same_length, at_err}
use Rattle.cmb_core_cluster.proofs.Sweeps.{IsAdvanced, IsSwept, own_to, part_rises, swept_on}
use Rattle.cmb_core_cluster.proofs.cluster.Cluster.step_all.Goals as goal

pub loop-slot-preserved : goal.loop-slot-preserved
loop-slot-preserved c =
    let s : Cluster = c.loop-slot.self in
    let here : c.loop-slot.slot < length s.waves = omega (arith, c.loop-slot-test.true, c.slots-slot-end.ensures, same_length c.args.self.now s c.loop-slot.invariant.same) in
    let step : IsAdvanced s c.step_at.new.self c.loop-slot.slot =
    record { sound = c.step_at.ensures.sound; same = c.step_at.ensures.same; waves = c.in_ok-step_at.ensures.waves; before = c.step_at.ensures.before }
    in
    let rose = c.either-rose.ensures ∙ ap (λ b. c.loop-slot.rose || b) (c.is_some-moved.ensures ∙ ap is_some c.in_ok-step_at.ensures.part ∙ part_rises s c.loop-slot.slot) in
    let P : Bool → Type 0 = λ b. IsSwept c.args.self.now c.step_at.new.self (c.loop-slot.slot + 1) b in
    subst P (sym rose) (swept_on c.args.self.now s c.step_at.new.self c.loop-slot.slot c.loop-slot.rose c.loop-slot.invariant here step)

pub returns-in_err-step_at-clause-memory : goal.returns-in_err-step_at-clause-memory
returns-in_err-step_at-clause-memory c = λ design clustering cluster of.
    at_err c.from_residual.result _ (
      length (own_to design clustering cluster c.loop-slot.slot),
      ap (λ s. s.waves) c.in_err-step_at.ensures.unchanged ∙ c.loop-slot.invariant.waves design clustering cluster of
          ∙ ap (stepped_waves design c.args.self.now.waves) (first_own design clustering cluster c.loop-slot.slot),
    )

pub returns-clause-rose : goal.returns-clause-rose
returns-clause-rose c = λ design clustering cluster of.
    let all : length (held_nets design clustering cluster) ≤ c.loop-slot.slot = omega (arith, c.loop-slot-test.false, c.slots-slot-end.ensures, held_as_waves design clustering cluster c.args.self.now of, same_length c.args.self.now c.loop-slot.self c.loop-slot.invariant.same) in
    c.loop-slot.invariant.rises design clustering cluster of ∙ ap (some_rises design c.args.self.now.waves) (all_own design clustering cluster c.loop-slot.slot all)

pub returns-clause-waves : goal.returns-clause-waves
returns-clause-waves c = λ design clustering cluster of.
    let all : length (held_nets design clustering cluster) ≤ c.loop-slot.slot = omega (arith, c.loop-slot-test.false, c.slots-slot-end.ensures, held_as_waves design clustering cluster c.args.self.now of, same_length c.args.self.now c.loop-slot.self c.loop-slot.invariant.same) in
    c.loop-slot.invariant.waves design clustering cluster of ∙ ap (stepped_waves design c.args.self.now.waves) (all_own design clustering cluster c.loop-slot.slot all)
