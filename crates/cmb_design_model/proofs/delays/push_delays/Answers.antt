use Rattle.std.proofs.Common.{◌≡◌, ◌+◌, ◌++◌, ◌∷◌, [], ℕ, List, ◌∙◌, ap, sym, arith, append_assoc, map}
use Rattle.std.specs.List.{range_with_len}
use Rattle.std.proofs.lemmas.List.FromFn.{map-range_with_len_more}
use Rattle.cmb_design_model.specs.Nets.{pins_at}
use Rattle.cmb_design_model.specs.Timing.{delay_by, net_delays}
use Rattle.cmb_design_model.proofs.delays.push_delays.Goals as goal

pub loop-pin-preserved : goal.loop-pin-preserved
loop-pin-preserved c =
    let netlist = c.args.netlist.now in
    let rows = c.args.rows.now in
    let net = c.args.net in
    let f : ℕ → ℕ = λ k. delay_by netlist rows net (k + 1) in
    let pin = c.loop-pin.pin in
    let first : List ℕ = c.args.flat.now.items in
    let so_far : List ℕ = map f (range_with_len 0 pin) in
    c.in_ok-push.ensures.items ∙ ap (λ t. t ++ c.delay_at.result ∷ []) c.loop-pin.invariant ∙ append_assoc first so_far (c.delay_at.result ∷ [])
    ∙ ap (λ t. first ++ t) (ap (λ y. so_far ++ y ∷ []) c.delay_at.ensures ∙ sym (map-range_with_len_more f 0 pin pin (omega arith)))

pub returns : goal.returns
unfolding net_delays
returns c =
    let netlist = c.args.netlist.now in
    let rows = c.args.rows.now in
    let net = c.args.net in
    let f : ℕ → ℕ = λ k. delay_by netlist rows net (k + 1) in
    let first : List ℕ = c.args.flat.now.items in
    let e : c.loop-pin.pin ≡ pins_at netlist net = omega (arith, c.pin_count-pin-end.ensures) in
    c.loop-pin.invariant ∙ ap (λ n. first ++ map f (range_with_len 0 n)) e
