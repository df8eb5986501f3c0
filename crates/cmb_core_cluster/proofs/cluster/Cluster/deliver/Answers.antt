use Rattle.std.proofs.Common.{◌≡◌, Some, List, sym, ◌∙◌, ap, subst}
use Rattle.std.specs.List.{AllByRecursion}
use Rattle.cmb_wave.specs.Wave.{Wave}
use Rattle.cmb_design_model.specs.Exact.{IsExactWaveIn}
use Rattle.cmb_core_cluster.specs.declared.delivery.DeliverFault.TheVariants.{Clash}
use Rattle.cmb_core_cluster.specs.Clusters.{input_slot, slot_wave}
use Rattle.cmb_core_cluster.proofs.ExactFacts.{deliver_exact, deliver_calm, still_exact}
use Rattle.cmb_core_cluster.proofs.Inputs.{deliver_put, deliver_refused}
use Rattle.cmb_core_cluster.proofs.cluster.Cluster.deliver.Goals as goal

pub returns-in-Ok-clause-ok : goal.returns-in-Ok-clause-ok
returns-in-Ok-clause-ok c =
    let place : input_slot c.args.self.now c.args.piece.now.net ≡ Some c.in-Some.slot = sym (ap (input_slot c.args.self.now) c.net.ensures) ∙ sym c.input_place.ensures.place ∙ c.in-Some.is in
    (deliver_put c.args.self.now c.args.piece.now c.in-Some.slot (slot_wave c.deliver_at.new.self c.in-Some.slot) _ place c.in-Ok.ensures.waves c.in-Ok.ensures.net c.in-Ok.ensures.ok).0

pub returns-in-Ok-clause-waves : goal.returns-in-Ok-clause-waves
returns-in-Ok-clause-waves c =
    let place : input_slot c.args.self.now c.args.piece.now.net ≡ Some c.in-Some.slot = sym (ap (input_slot c.args.self.now) c.net.ensures) ∙ sym c.input_place.ensures.place ∙ c.in-Some.is in
    (deliver_put c.args.self.now c.args.piece.now c.in-Some.slot (slot_wave c.deliver_at.new.self c.in-Some.slot) _ place c.in-Ok.ensures.waves c.in-Ok.ensures.net c.in-Ok.ensures.ok).1

pub returns-in-Ok-clause-clock : goal.returns-in-Ok-clause-clock
returns-in-Ok-clause-clock c =
    let place : input_slot c.args.self.now c.args.piece.now.net ≡ Some c.in-Some.slot = sym (ap (input_slot c.args.self.now) c.net.ensures) ∙ sym c.input_place.ensures.place ∙ c.in-Some.is in
    c.in-Ok.ensures.clock ∙ sym (ap (λ w. w.clock) (deliver_put c.args.self.now c.args.piece.now c.in-Some.slot (slot_wave c.deliver_at.new.self c.in-Some.slot) _ place c.in-Ok.ensures.waves c.in-Ok.ensures.net c.in-Ok.ensures.ok).2)

pub returns-in-Err-clause-fault : goal.returns-in-Err-clause-fault
returns-in-Err-clause-fault c =
    let place : input_slot c.args.self.now c.args.piece.now.net ≡ Some c.in-Some.slot = sym (ap (input_slot c.args.self.now) c.net.ensures) ∙ sym c.input_place.ensures.place ∙ c.in-Some.is in
    rw c.refusal.ensures (deliver_refused c.args.self.now c.args.piece.now c.in-Some.slot c.in-Err.fault place c.in-Err.ensures.fault)

pub returns-in-Ok-clause-exact : goal.returns-in-Ok-clause-exact
returns-in-Ok-clause-exact c = λ design clustering cluster exact piece.
    let P : List Wave → Type 0 = λ ws. AllByRecursion (IsExactWaveIn design) ws in
    still_exact design clustering cluster c.args.self.now c.deliver_at.new.self c.deliver_at.ensures.same exact
    (subst P (sym (returns-in-Ok-clause-waves c)) (deliver_exact design c.args.self.now c.args.piece.now _ exact.waves piece (returns-in-Ok-clause-ok c)))

pub returns-in-Err-clause-calm : goal.returns-in-Err-clause-calm
returns-in-Err-clause-calm c = λ design clustering cluster tick exact piece e.
    let same : c.refusal.result ≡ Clash tick = cc in
    deliver_calm design c.args.self.now c.args.piece.now exact.waves piece c.refusal.result (returns-in-Err-clause-fault c) tick same
