use Rattle.std.proofs.Common.{◌≡◌, ◌∙◌, ◌+◌, ap, arith, rules, length, max}
use Rattle.cmb_netlist.specs.Netlist.{driver_of, pins_of}
use Rattle.cmb_design_model.specs.Nets.{pins_at}
use Rattle.cmb_design_model.specs.Timing.{delay}
use Rattle.cmb_count.proofs.LargestFacts.{IsDelayOfPin-max, bounds-next}
use Rattle.cmb_count.proofs.largest.largest_of.Goals as goal

pub loop-place-preserved : goal.loop-place-preserved
loop-place-preserved c =
    let design = c.args.design.now in
    let here : c.delay.result ≡ delay design c.args.net (c.loop-place.place + 1) = c.delay.ensures.value in
    let is : c.max-most.result ≡ max c.loop-place.most (delay design c.args.net (c.loop-place.place + 1)) = c.max-most.ensures ∙ ap (max c.loop-place.most) here in
    let many : length c.pins-place-end.result.now ≡ pins_at design.netlist c.args.net =
    ap length (c.pins-place-end.ensures ∙ ap (λ d. pins_of d) (c.driver.ensures ∙ ap (λ n. driver_of n c.args.net) c.netlist.ensures)) in
    record {
      least = let old = c.loop-place.invariant.least in omega (arith, is);
      bounds = bounds-next design c.args.net c.loop-place.place c.loop-place.most c.max-most.result c.loop-place.invariant.bounds (omega (arith, is)) (omega (arith, is));
      met = λ h. IsDelayOfPin-max design c.args.net (c.loop-place.place + 1) c.loop-place.most c.max-most.result (search rules) (omega arith) (omega (arith, many)) is (c.loop-place.invariant.met h);
    }
