use Rattle.std.proofs.Common.{◌≡◌, ◌<◌, ◌∙◌, ap, arith, get_or, get_or-set_same, length, set, subst, sym}
use Rattle.std.specs.Prelude.{IfErr, IfOk}
use Rattle.cmb_wave.specs.Calls.{RefusesAs, taken}
use Rattle.cmb_wave.specs.Wave.{Wave, new_wave}
use Rattle.cmb_core_cluster.specs.Clusters.{Cluster, slot_wave}
use Rattle.cmb_core_cluster.proofs.ClusterLemmas.{IsKept, kept_by_loan, kept_same, read_as}
use Rattle.cmb_core_cluster.proofs.cluster.Cluster.deliver_at.Goals as goal

kept : (c : goal.After-self-1) → IsKept c.self.inside.horizon c.self.inside.processes.items c.self.inside.directory c.self.inside.waves.items (set c.self.inside.waves.items c.args.slot c.take.new.self)
kept c = kept_by_loan _ _ _ _ _ c.args.slot c.index_mut.result.now c.take.new.self c.self.view_is c.requires c.index_mut.ensures.value c.take.ensures.net c.take.ensures.base c.take.ensures.later c.self.invariant.sound c.self.invariant.directory

pub invariant_of-self : goal.invariant_of-self
invariant_of-self c = let k = kept c in record { sound = k.sound; directory = k.listed }

pub returns-clause-same : goal.returns-clause-same
returns-clause-same c = kept_same _ _ _ _ _ _ c.self.view_is (kept c)

-- the wave in the place as it was, and as it is
was : (c : goal.After-self-1) → c.index_mut.result.now ≡ slot_wave c.args.self.now c.args.slot
was c = read_as c.args.self.now _ _ _ c.args.slot c.index_mut.result.now c.self.view_is c.requires c.index_mut.ensures.value

now : (c : goal.After-self-1) → get_or (set c.self.inside.waves.items c.args.slot c.take.new.self) c.args.slot (new_wave 0) ≡ c.take.new.self
now c =
    let there : c.args.slot < length c.self.inside.waves.items = omega (arith, ap (λ (s : Cluster). length s.waves) c.self.view_is, c.requires) in
    get_or-set_same c.self.inside.waves.items c.args.slot c.take.new.self (new_wave 0) there

pub returns-clause-waves : goal.returns-clause-waves
returns-clause-waves c = ap (λ (s : Cluster). set s.waves c.args.slot c.take.new.self) c.self.view_is ∙ ap (set c.args.self.now.waves c.args.slot) (sym (now c))

pub returns-clause-clock : goal.returns-clause-clock
returns-clause-clock c = subst (λ (w : Wave). IfOk c.take.result (λ clock. clock ≡ w.clock)) (sym (now c)) c.take.ensures.clock

pub returns-clause-net : goal.returns-clause-net
returns-clause-net c = ap (λ (w : Wave). w.net) (now c) ∙ c.take.ensures.net ∙ ap (λ (w : Wave). w.net) (was c)

pub returns-clause-fault : goal.returns-clause-fault
returns-clause-fault c = subst (λ (w : Wave). IfErr c.take.result (λ fault. RefusesAs fault (taken w c.args.piece.now))) (was c) c.take.ensures.fault
