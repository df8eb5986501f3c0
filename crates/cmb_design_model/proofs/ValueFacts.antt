-- The equations of `value`, and that each use in them is of an earlier tick.
use Rattle.std.proofs.Common.{◌≡◌, ℕ, zero, suc, ◌-◌, ◌<◌, ◌≤◌, true, false, List, [], ◌∷◌, ◌⊎◌, inl, inr, Option, Some, None, refl, ap, ◌∙◌, arith, ltb}
use Rattle.std.proofs.lemmas.Bool.{lt-ltb, le-ltb, cases_lt}
use Rattle.cmb_wave.specs.declared.level.Level.{Level}
use Rattle.cmb_netlist.specs.declared.netlist.Kind.{Kind}
use Rattle.cmb_netlist.specs.declared.netlist.Driver.{Driver}
use Rattle.cmb_netlist.specs.declared.netlist.Driver.TheVariants.{Input, Gate, Flop}
use Rattle.cmb_netlist.specs.Netlist.{driver_of}
use Rattle.cmb_design_model.specs.Design.{Design}
use Rattle.cmb_design_model.specs.Gate.{gate}
use Rattle.cmb_design_model.specs.Timing.{delay, stimulus, clock_of, last_sample}
use Rattle.cmb_design_model.specs.Value.{delayed, pin_levels, flop_level, driven_level, level_within, value}
use Rattle.cmb_design_model.proofs.AskFacts.{clock_of-positive}
use Rattle.cmb_design_model.proofs.SampleFacts.{delay-positive, last_sample-found}

-- two waveforms are the same at ticks before this one
abbrev pub AgreeBefore : ℕ → (ℕ → Level) → (ℕ → Level) → Type 0
AgreeBefore tick f g = (t : ℕ) → t < tick → f t ≡ g t

-- what a delay shows is the level at one earlier tick
pub delayed-same : (f g : ℕ → Level) (ticks tick : ℕ) → (ticks ≤ tick → f (tick - ticks) ≡ g (tick - ticks)) → delayed f ticks tick ≡ delayed g ticks tick
delayed-same f g ticks tick same = go (cases_lt tick ticks)
  where
    go : (tick < ticks) ⊎ (ticks ≤ tick) → delayed f ticks tick ≡ delayed g ticks tick
    go (inl l) = let e : ltb tick ticks ≡ true = lt-ltb tick ticks l in rw e
    go (inr l) = let e : ltb tick ticks ≡ false = le-ltb tick ticks l in rw e (same l)

pub delayed-agrees : (tick ticks : ℕ) (f g : ℕ → Level) → 1 ≤ ticks → AgreeBefore tick f g → delayed f ticks tick ≡ delayed g ticks tick
delayed-agrees tick ticks f g positive agree = delayed-same f g ticks tick (λ l. agree (tick - ticks) (omega arith))

-- what a flip-flop shows is the level at the last sample
pub flop_level-same : (design : Design) (f g : ℕ → Level) (net tick : ℕ)
    → ((sample : ℕ) → delay design net 1 ≤ tick → last_sample (clock_of design net) (tick - delay design net 1) ≡ Some sample → f sample ≡ g sample)
    → flop_level design f net tick ≡ flop_level design g net tick
flop_level-same design f g net tick same = go (cases_lt tick (delay design net 1)) (last_sample (clock_of design net) (tick - delay design net 1)) refl
  where
    go : (tick < delay design net 1) ⊎ (delay design net 1 ≤ tick) → (last : Option ℕ) → last_sample (clock_of design net) (tick - delay design net 1) ≡ last
        → flop_level design f net tick ≡ flop_level design g net tick
    go (inl l) last is = let e : ltb tick (delay design net 1) ≡ true = lt-ltb tick (delay design net 1) l in rw e
    go (inr l) None is = let e : ltb tick (delay design net 1) ≡ false = le-ltb tick (delay design net 1) l in rw (e, is)
    go (inr l) (Some sample) is = let e : ltb tick (delay design net 1) ≡ false = le-ltb tick (delay design net 1) l in rw (e, is) (same sample l is)

module _ (design : Design) (f g : ℕ → ℕ → Level) (net tick : ℕ) (agree : (m : ℕ) → AgreeBefore tick (f m) (g m)) where
  pub pin_levels-agree : (pin : ℕ) (operands : List ℕ) → pin_levels design f net tick pin operands ≡ pin_levels design g net tick pin operands
  pin_levels-agree pin [] = refl
  pin_levels-agree pin (operand ∷ operands) =
      let here : delayed (f operand) (delay design net pin) tick ≡ delayed (g operand) (delay design net pin) tick = delayed-agrees tick (delay design net pin) (f operand) (g operand) (delay-positive design net pin) (agree operand) in
      rw (here, pin_levels-agree (suc pin) operands)

  pub flop_level-agrees : (source : ℕ) → flop_level design (f source) net tick ≡ flop_level design (g source) net tick
  flop_level-agrees source =
      flop_level-same design (f source) (g source) net tick
      (λ sample late is. agree source sample (omega (arith, (last_sample-found (clock_of design net) (clock_of-positive design net) _ sample is).1, delay-positive design net 1)))

  pub driven_level-agrees : (driver : Driver) → driven_level design f net tick driver ≡ driven_level design g net tick driver
  driven_level-agrees Input = refl
  driven_level-agrees (Gate kind operands) = ap (gate kind) (pin_levels-agree 1 operands)
  driven_level-agrees (Flop source) = flop_level-agrees source

-- ---- the fuel doesn't matter, so long as it lasts

pub level_within-enough : (design : Design) (drivers others net tick : ℕ) → tick < drivers → tick < others → level_within design drivers net tick ≡ level_within design others net tick
unfolding level_within
level_within-enough design zero others net tick a b = absurd (omega arith)
level_within-enough design (suc drivers) zero net tick a b = absurd (omega arith)
level_within-enough design (suc drivers) (suc others) net tick a b =
    driven_level-agrees design (level_within design drivers) (level_within design others) net tick
    (λ m t earlier. level_within-enough design drivers others m t (omega arith) (omega arith))
    (driver_of design.netlist net)

-- the equation of `value`: the level of a net is what its driver gives, from the values at earlier ticks
pub value-is : (design : Design) (net tick : ℕ) → value design net tick ≡ driven_level design (value design) net tick (driver_of design.netlist net)
unfolding value
value-is design net tick =
    driven_level-agrees design (level_within design tick) (value design) net tick
    (λ m t earlier. level_within-enough design tick (suc t) m t earlier (omega arith))
    (driver_of design.netlist net)

pub value-at_input : (design : Design) (net tick : ℕ) → driver_of design.netlist net ≡ Input → value design net tick ≡ stimulus design net tick
value-at_input design net tick e = value-is design net tick ∙ ap (driven_level design (value design) net tick) e

pub value-at_gate : (design : Design) (net tick : ℕ) (kind : Kind) (operands : List ℕ) → driver_of design.netlist net ≡ Gate kind operands → value design net tick ≡ gate kind (pin_levels design (value design) net tick 1 operands)
value-at_gate design net tick kind operands e = value-is design net tick ∙ ap (driven_level design (value design) net tick) e

pub value-at_flop : (design : Design) (net tick source : ℕ) → driver_of design.netlist net ≡ Flop source → value design net tick ≡ flop_level design (value design source) net tick
value-at_flop design net tick source e = value-is design net tick ∙ ap (driven_level design (value design) net tick) e
