use Rattle.std.proofs.Common.{arith, sym, ap, subst}
use Rattle.std.specs.List.{AllByRecursion}
use Rattle.cmb_design_model.specs.Exact.{IsExactWaveIn}
use Rattle.cmb_core_cluster.proofs.ExactFacts.{still_exact, trimmed_exact}
use Rattle.cmb_core_cluster.proofs.NetByNet.{same_length}
use Rattle.cmb_core_cluster.proofs.TrimFacts.{trim_none, trim_more, trim_all}
use Rattle.cmb_core_cluster.proofs.cluster.Cluster.trim.Goals as goal

pub loop-slot-init : goal.loop-slot-init
loop-slot-init c = trim_none c.args.self.now

pub trim_at-requires : goal.trim_at-requires
trim_at-requires c = omega (arith, c.loop-slot-test.true, c.slots-slot-end.ensures, same_length c.args.self.now c.loop-slot.self c.loop-slot.invariant.same)

pub loop-slot-preserved : goal.loop-slot-preserved
loop-slot-preserved c =
    trim_more c.args.self.now c.loop-slot.self c.loop-slot.slot c.loop-slot.invariant (omega (arith, c.loop-slot-test.true, c.slots-slot-end.ensures)) c.trim_at.new.self c.trim_at.ensures.waves c.trim_at.ensures.same

pub returns : goal.returns
returns c =
    let all = trim_all c.args.self.now c.loop-slot.self c.loop-slot.slot (omega (arith, c.loop-slot-test.false, c.slots-slot-end.ensures)) c.loop-slot.invariant in
    record {
      trimmed = all;
      exact = λ design clustering cluster exact.
          still_exact design clustering cluster c.args.self.now c.loop-slot.self c.loop-slot.invariant.same exact
          (subst (AllByRecursion (IsExactWaveIn design)) (sym (ap (λ s. s.waves) all)) (trimmed_exact design c.args.self.now exact.waves));
    }
