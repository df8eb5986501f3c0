use Rattle.std.proofs.Common.{◌≡◌, Option, Ok, Err, Result, IfOk, OnOk, sym, ◌∙◌, subst}
use Rattle.cmb_wave.specs.Wave.{Piece}
use Rattle.cmb_core_cluster.specs.Clusters.{Cluster, step_waves}
use Rattle.cmb_core_cluster.specs.Step.{wave_at}
use Rattle.cmb_core_cluster.specs.Trims.{AreTraces, AreTrims, IsTrimOf}
use Rattle.worked_core.proofs.trims.trim_and_step.Goals as goal
use Rattle.worked_core.proofs.trims.trim_and_step.Goals.{After-step}

on_ok : {A E : Type 0} (r : Result A E) (P Q : Type 0) → (P → Q) → OnOk r P → OnOk r Q
on_ok (Ok a) P Q f h = f h
on_ok (Err e) P Q f h = tt

-- the cluster after the trim is the one before, less what it forgot
trim : (c : After-step) → AreTraces c.args.cluster.now.waves → IsTrimOf c.args.cluster.now c.trim.new.self
trim c traces =
    let law = c.trims_change_no_answer.ensures in
    subst (IsTrimOf c.args.cluster.now) (sym c.trim.ensures.trimmed) (law.trims c.args.cluster.now c.args.cluster.now traces (law.same c.args.cluster.now))

pub returns-clause-answer : goal.returns-clause-answer
returns-clause-answer c = λ design clustering number exact own.
    let law = c.trims_change_no_answer.ensures in
    let traces = law.traces design clustering number c.args.cluster.now exact in
    let of = (c.trim.ensures.exact design clustering number exact).of in
    let P : Option Piece → Type 0 = λ answer. IfOk c.step.result (λ part. part ≡ answer) in
    subst P (law.steps design clustering number c.args.cluster.now c.trim.new.self c.args.net of c.inputs.ensures.sound traces (trim c traces) own)
    (c.step.ensures.piece design clustering number of own)

pub returns-clause-after : goal.returns-clause-after
returns-clause-after c = λ design clustering number exact own.
    let law = c.trims_change_no_answer.ensures in
    let traces = law.traces design clustering number c.args.cluster.now exact in
    let of = (c.trim.ensures.exact design clustering number exact).of in
    let less = trim c traces in
    let went : AreTrims (step_waves design c.args.cluster.now.waves (wave_at c.args.cluster.now.waves c.args.net)) (step_waves design c.trim.new.self.waves (wave_at c.trim.new.self.waves c.args.net)) =
    law.stepped design clustering number c.args.cluster.now c.trim.new.self c.args.net of c.inputs.ensures.sound traces less own
    in
    on_ok c.step.result _ _ (λ waves. record {
      horizon = c.step.ensures.same.horizon ∙ less.horizon;
      processes = c.step.ensures.same.processes ∙ less.processes;
      waves = subst (AreTrims (step_waves design c.args.cluster.now.waves (wave_at c.args.cluster.now.waves c.args.net))) (sym waves) went;
    }) (c.step.ensures.waves design clustering number of own)

pub returns-clause-exact : goal.returns-clause-exact
returns-clause-exact c = λ design clustering number exact. c.step.ensures.exact design clustering number (c.trim.ensures.exact design clustering number exact)
