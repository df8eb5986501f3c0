use Rattle.std.proofs.Common.{Ok, Err, Result, IfErr, refl, ap, sym, ◌∙◌, subst}
use Rattle.cmb_wave.specs.Wave.{Wave}
use Rattle.cmb_core_cluster.specs.declared.delivery.DeliverFault.{DeliverFault}
use Rattle.cmb_core_cluster.specs.declared.delivery.DeliverFault.TheVariants.{Stranger, Gap, Old, Clash, Memory}
use Rattle.cmb_core_cluster.specs.Clusters.{RefusesDelivery, delivered}
use Rattle.cmb_core_cluster.specs.Trims.{AreAlike, IsTrimOf}
use Rattle.worked_core.proofs.trims.trim_and_deliver.Goals as goal

if_err : {A E : Type 0} (r : Result A E) (P Q : E → Type 0) → ((e : E) → P e → Q e) → IfErr r P → IfErr r Q
if_err (Ok a) P Q f h = tt
if_err (Err e) P Q f h = f e h

-- what is answered alike is refused alike
refuses : (one other : Result Wave DeliverFault) → AreAlike one other → (fault : DeliverFault) → RefusesDelivery fault other → RefusesDelivery fault one
refuses (Ok w) (Ok v) t Memory r = refl
refuses (Ok w) (Ok v) t Stranger r = absurd (cc)
refuses (Ok w) (Ok v) t (Gap clock) r = absurd (cc)
refuses (Ok w) (Ok v) t (Old clock) r = absurd (cc)
refuses (Ok w) (Ok v) t (Clash tick) r = absurd (cc)
refuses (Err e) (Err f) t Memory r = r
refuses (Err e) (Err f) t Stranger r = ap Err (sym t) ∙ r
refuses (Err e) (Err f) t (Gap clock) r = ap Err (sym t) ∙ r
refuses (Err e) (Err f) t (Old clock) r = ap Err (sym t) ∙ r
refuses (Err e) (Err f) t (Clash tick) r = ap Err (sym t) ∙ r
refuses (Ok w) (Err f) t fault r = absurd t
refuses (Err e) (Ok v) t fault r = absurd t

pub returns : goal.returns
returns c = λ design clustering number exact.
    let law = c.trims_change_no_answer.ensures in
    let traces = law.traces design clustering number c.args.cluster.now exact in
    let less : IsTrimOf c.args.cluster.now c.trim.new.self = subst (IsTrimOf c.args.cluster.now) (sym c.trim.ensures.trimmed) (law.trims c.args.cluster.now c.args.cluster.now traces (law.same c.args.cluster.now)) in
    if_err c.deliver.result _ _ (refuses (delivered c.args.cluster.now c.args.piece.now) (delivered c.trim.new.self c.args.piece.now) (law.delivers c.args.cluster.now c.trim.new.self c.args.piece.now traces less)) c.deliver.ensures.fault
