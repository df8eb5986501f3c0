-- A restriction has the values of the whole: by induction on the tick, since each rule looks at earlier ticks.
use Rattle.std.proofs.Common.{◌≡◌, ℕ, zero, suc, ◌<◌, List, [], ◌∷◌, length, map, get_or, refl, sym, ap, ◌∙◌, arith}
use Rattle.std.specs.Prelude.{All}
use Rattle.std.proofs.lemmas.List.{get_or-map, length-map}
use Rattle.std.proofs.lemmas.List.Elements.{All-head, All-tail}
use Rattle.cmb_netlist.specs.declared.netlist.Driver.{Driver}
use Rattle.cmb_netlist.specs.declared.netlist.Driver.TheVariants.{Input, Gate, Flop}
use Rattle.cmb_netlist.proofs.Wired.{driver-wired}
use Rattle.cmb_netlist.specs.Netlist.{Netlist, IsNetlist, IsWired, driver_of}
use Rattle.cmb_design_model.specs.Design.{Design}
use Rattle.cmb_design_model.specs.Gate.{gate}
use Rattle.cmb_design_model.specs.Timing.{delay, clock_of, initial_level}
use Rattle.cmb_design_model.specs.Value.{delayed, pin_levels, flop_level, driven_level, value}
use Rattle.cmb_design_model.proofs.ValueFacts.{AgreeBefore, delayed-agrees, flop_level-agrees, value-is}
use Rattle.cmb_design_model.proofs.SampleFacts.{delay-positive}
use Rattle.cmb_cone.specs.Restriction.{IsPart, IsRestriction, with_nets}

-- the driver of a net of the part
pub driver_read : (whole part : Netlist) (nets : List ℕ) → IsPart whole nets part → IsNetlist part → (i : ℕ) → i < length nets
    → with_nets (λ k. get_or nets k 0) (driver_of part i) ≡ driver_of whole (get_or nets i 0)
driver_read whole part nets is lawful i within =
    let F : Driver → Driver = with_nets (λ k. get_or nets k 0) in
    let long : length part.drivers ≡ length nets = sym (length-map part.drivers F) ∙ ap length is.drivers ∙ length-map nets (driver_of whole) in
    let here : i < length part.drivers = omega arith in
    sym (get_or-map F part.drivers i Input Input here) ∙ ap (λ ds. get_or ds i Input) is.drivers ∙ get_or-map (driver_of whole) nets i 0 Input within

pub names_long : (whole part : Netlist) (nets : List ℕ) → IsPart whole nets part → length part.names ≡ length nets
names_long whole part nets is = ap length is.names ∙ length-map nets _

module _ (design part : Design) (nets : List ℕ) (is : IsRestriction design nets part) (i tick : ℕ) (within : i < length nets)
    (agree : (k : ℕ) → k < length nets → AgreeBefore tick (value part k) (value design (get_or nets k 0))) where
  pins-restricted : (pin : ℕ) (operands : List ℕ) → All (λ operand. operand < length nets) operands
      → pin_levels part (value part) i tick pin operands ≡ pin_levels design (value design) (get_or nets i 0) tick pin (map (λ k. get_or nets k 0) operands)
  pins-restricted pin [] all = refl
  pins-restricted pin (operand ∷ operands) all =
      let here : delayed (value part operand) (delay part i pin) tick ≡ delayed (value design (get_or nets operand 0)) (delay part i pin) tick =
      delayed-agrees tick (delay part i pin) (value part operand) (value design (get_or nets operand 0)) (delay-positive part i pin) (agree operand (All-head (λ k. k < length nets) operand operands all)) in
      let same : delay part i pin ≡ delay design (get_or nets i 0) pin = is.delays i pin within in
      let there : delayed (value part operand) (delay part i pin) tick ≡ delayed (value design (get_or nets operand 0)) (delay design (get_or nets i 0) pin) tick =
      here ∙ ap (λ d. delayed (value design (get_or nets operand 0)) d tick) same in
      rw (there, pins-restricted (suc pin) operands (All-tail (λ k. k < length nets) operand operands all)) refl

  flop-restricted : (source : ℕ) → source < length nets → flop_level part (value part source) i tick ≡ flop_level design (value design (get_or nets source 0)) (get_or nets i 0) tick
  flop-restricted source known =
      let here : flop_level part (value part source) i tick ≡ flop_level part (value design (get_or nets source 0)) i tick =
      flop_level-agrees part (λ _. value part source) (λ _. value design (get_or nets source 0)) i tick (λ _. agree source known) source in
      let a : delay part i 1 ≡ delay design (get_or nets i 0) 1 = is.delays i 1 within in
      let b : clock_of part i ≡ clock_of design (get_or nets i 0) = is.clocks i within in
      let c : initial_level part i ≡ initial_level design (get_or nets i 0) = is.initial i within in
      here ∙ rw (a, b, c) refl

  driven-restricted : (driver : Driver) → IsWired (length nets) driver
      → driven_level part (value part) i tick driver ≡ driven_level design (value design) (get_or nets i 0) tick (with_nets (λ k. get_or nets k 0) driver)
  driven-restricted Input wired = is.stimuli i tick within
  driven-restricted (Gate kind operands) wired = ap (gate kind) (pins-restricted 1 operands wired.1)
  driven-restricted (Flop source) wired = flop-restricted source wired

pub value-restricted : (design part : Design) (nets : List ℕ) → IsRestriction design nets part → IsNetlist part.netlist
    → (fuel tick : ℕ) → tick < fuel → (i : ℕ) → i < length nets → value part i tick ≡ value design (get_or nets i 0) tick
value-restricted design part nets is lawful zero tick below i within = absurd (omega arith)
value-restricted design part nets is lawful (suc fuel) tick below i within =
    let long : length part.netlist.names ≡ length nets = names_long design.netlist part.netlist nets is.netlist in
    let wired : IsWired (length nets) (driver_of part.netlist i) = rw long at (driver-wired part.netlist lawful i) in
    let agree : (k : ℕ) → k < length nets → AgreeBefore tick (value part k) (value design (get_or nets k 0)) =
    λ k known t earlier. value-restricted design part nets is lawful fuel t (omega arith) k known in
    value-is part i tick
    ∙ driven-restricted design part nets is i tick within agree (driver_of part.netlist i) wired
    ∙ ap (driven_level design (value design) (get_or nets i 0) tick) (driver_read design.netlist part.netlist nets is.netlist lawful i within)
    ∙ sym (value-is design (get_or nets i 0) tick)
