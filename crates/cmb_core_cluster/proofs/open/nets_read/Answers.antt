use Rattle.std.proofs.Common.{◌≡◌, ◌+◌, ◌<◌, ℕ, List, Bool, Global, Vec, length, arith, ap, sym, subst, ◌∙◌}
use Rattle.std.specs.Prelude.{All}
use Rattle.std.proofs.lemmas.List.{with_items_is}
use Rattle.cmb_netlist.proofs.Wired.{pins-below}
use Rattle.cmb_netlist.specs.Netlist.{Netlist, driver_of, pins_of}
use Rattle.cmb_design_model.specs.Exact.{nets_of}
use Rattle.cmb_core_cluster.specs.Inner.Opening.{AreRead}
use Rattle.cmb_core_cluster.proofs.OpeningFacts.{read_other, read_own}
use Rattle.cmb_core_cluster.proofs.open.nets_read.Goals as goal
use Rattle.cmb_core_cluster.proofs.open.nets_read.Goals.{then-of-cluster, else-of-cluster}

pub loop-net-preserved : goal.loop-net-preserved
loop-net-preserved c =
    let P = AreRead c.args.design.now c.args.clustering.now c.args.cluster (c.loop-net.net + 1) in
    let items = λ (v : Vec Bool Global). v.items in
    elim c.if-of-cluster.branch [
      | then-of-cluster w ↦
          let long : length w.mark_all.new.read ≡ length c.loop-net.read.items = w.mark_all.auto.read ∙ ap length w.deref_mut.ensures.value in
          subst P (sym (ap items w.read-is ∙ with_items_is c.loop-net.read w.mark_all.new.read (w.mark_all.auto.read ∙ w.deref_mut.ensures.len)))
          (read_own c.args.design.now c.args.clustering.now c.args.cluster c.loop-net.net c.loop-net.read.items w.mark_all.new.read w.pins.result.now c.loop-net.invariant
          (sym c.of.ensures ∙ w.if-of-cluster.true) (w.pins.ensures ∙ ap pins_of (w.driver.ensures ∙ ap (λ (n : Netlist). driver_of n c.loop-net.net) c.netlist-netlist.ensures)) long
          (rw w.deref_mut.ensures.value at w.mark_all.ensures))
      | else-of-cluster w ↦
          subst P (sym (ap items w.read-is))
          (read_other c.args.design.now c.args.clustering.now c.args.cluster c.loop-net.net c.loop-net.read.items c.loop-net.invariant (λ own. w.if-of-cluster.false (c.of.ensures ∙ own)))
    ]

pub mark_all-requires : goal.mark_all-requires
mark_all-requires c =
    let netlist = c.netlist-netlist.result.now in
    let long : length c.deref_mut.result.now ≡ length netlist.names = ap length c.deref_mut.ensures.value ∙ c.loop-net.invariant.count ∙ sym (ap (λ (n : Netlist). length n.names) c.netlist-netlist.ensures) in
    subst (λ (pins : List ℕ). All (λ pin. pin < length c.deref_mut.result.now) pins) (sym (c.pins.ensures ∙ ap pins_of c.driver.ensures))
    (rw long (pins-below netlist c.len-net-end.ensures.sound c.loop-net.net))

pub returns-clause-read : goal.returns-clause-read
returns-clause-read c =
    let all : c.loop-net.net ≡ nets_of c.args.design.now = omega (arith, c.loop-net-test.false, c.loop-net.auto.net-end, c.len-net-end.ensures.value, ap (λ (n : Netlist). length n.names) c.netlist-netlist.ensures) in
    subst (λ upto. AreRead c.args.design.now c.args.clustering.now c.args.cluster upto c.loop-net.read.items) all c.loop-net.invariant

pub returns-clause-few : goal.returns-clause-few
returns-clause-few c = omega (arith, c.loop-net.invariant.count, c.len-net-end.ensures.few, ap (λ (n : Netlist). length n.names) c.netlist-netlist.ensures)
