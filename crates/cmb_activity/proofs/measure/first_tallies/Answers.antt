use Rattle.std.proofs.Common.{◌≡◌, List, [], ◌∷◌, ◌++◌, length, subst, ap, sym, suc, ◌+◌, ℕ, arith}
use Rattle.cmb_netlist.specs.Netlist.{Netlist}
use Rattle.cmb_design_model.specs.Exact.{nets_of}
use Rattle.cmb_design_model.specs.Value.{value}
use Rattle.cmb_activity.specs.declared.tally.Tally.{Tally}
use Rattle.cmb_activity.specs.Inner.Tallies.{AreTallies, IsTally}
use Rattle.cmb_activity.proofs.WindowFacts.{no_tallies, one_more}
use Rattle.cmb_activity.proofs.measure.first_tallies.Goals as goal

pub loop-net-init : goal.loop-net-init
loop-net-init c =
    subst (λ (list : List Tally). AreTallies (value c.args.design.now) 0 1 c.args.design.now.horizon list) (sym c.in_ok-tallies.ensures.items)
    (no_tallies (value c.args.design.now) c.args.design.now.horizon)

pub loop-net-preserved : goal.loop-net-preserved
loop-net-preserved c =
    subst (λ (list : List Tally). AreTallies (value c.args.design.now) (c.loop-net.net + 1) 1 c.args.design.now.horizon list) (sym c.in_ok-push.ensures.items)
    (subst (λ (n : ℕ). AreTallies (value c.args.design.now) n 1 c.args.design.now.horizon (c.loop-net.tallies.items ++ c.start.result ∷ []))
    (let e : suc c.loop-net.net ≡ c.loop-net.net + 1 = omega arith in e)
    (one_more (value c.args.design.now) c.loop-net.net c.args.design.now.horizon c.loop-net.tallies.items c.start.result c.loop-net.invariant
    (subst (λ (h : ℕ). IsTally (value c.args.design.now c.loop-net.net) 1 h c.start.result) c.horizon-horizon.ensures.value
    (c.start.ensures (value c.args.design.now c.loop-net.net) (sym c.start_level.ensures)))))

pub returns : goal.returns
returns c =
    subst (λ (n : ℕ). AreTallies (value c.args.design.now) n 1 c.args.design.now.horizon c.loop-net.tallies.items)
    (let e : c.loop-net.net ≡ nets_of c.args.design.now = omega (arith, c.loop-net-test.false, c.loop-net.auto.net-end, c.len-nets.ensures.value, ap (λ (n : Netlist). length n.names) c.netlist.ensures) in e)
    c.loop-net.invariant
