use Rattle.std.proofs.Common.{◌≡◌, ◌∙◌, ◌++◌, ◌<◌, ℕ, List, length, take, drop, sym, subst, arith}
use Rattle.std.specs.Prelude.{All}
use Rattle.std.proofs.lemmas.List.{take-append-le, take_all}
use Rattle.cmb_netlist.specs.Netlist.{Netlist, IsNetlist}
use Rattle.cmb_count.specs.Inner.Arrivals.{AreArrivals, AreComponents, AreSettled}
use Rattle.cmb_count.specs.declared.arrivals.Arrival.{Arrival}
use Rattle.cmb_count.proofs.ArrivalFacts.{all_arrive}
use Rattle.cmb_count.proofs.arrivals.arrivals_of.Goals as goal

-- the slice is the whole vector
whole : (n : ℕ) (all rest : List Arrival) → length all ≡ n → take n (all ++ rest) ≡ all
whole n all rest long = take-append-le n all rest (omega (arith, long)) ∙ take_all n all (omega (arith, long))

pub returns : goal.returns
returns c =
    let design = c.args.design.now in
    let components = c.in_ok-components.components in
    let all = c.loop-place.all in
    let sound : IsNetlist design.netlist = subst IsNetlist c.netlist-netlist.ensures c.len.ensures.sound in
    let are : AreComponents design.netlist components = subst (λ (n : Netlist). AreComponents n components) c.netlist-netlist.ensures c.in_ok-components.ensures in
    let end : c.loop-place.place ≡ length components.order.items = omega (arith, c.loop-place-test.false, c.loop-place.auto.place-end, c.len-place-end.ensures) in
    let done : AreSettled design c.args.between components all (length components.order.items) = subst (AreSettled design c.args.between components all) end c.loop-place.invariant in
    let long : length all ≡ c.in_ok-times.times.len = omega (arith, c.loop-place.auto.all, c.as_mut_slice-all.ensures.len) in
    let back = whole c.in_ok-times.times.len all (drop (length all) c.in_ok-times.times.items) long in
    record {
      nets = are.parts.nets;
      below = subst (λ (l : List Arrival). All (λ number. number < length l) components.numbers.items) (sym back)
          (λ k d h. let b = are.parts.below k d h in omega (arith, b, done.long));
      latest = subst (AreArrivals design c.args.between components.numbers.items) (sym back) (all_arrive design c.args.between components all sound are done);
    }
