-- Values meet their rows, and nothing else does.
use Rattle.std.proofs.Common.{◌≡◌, ℕ, zero, suc, ◌+◌, ◌-◌, ◌<◌, ◌≤◌, ◌⊎◌, inl, inr, Bool, true, false, List, [], ◌∷◌, length, slice_index, refl, sym, ap, ◌∙◌, arith, ltb}
use Rattle.std.proofs.lemmas.Bool.{lt-ltb, le-ltb, cases_lt, cases_Bool}
use Rattle.cmb_wave.specs.declared.level.Level.{Level}
use Rattle.cmb_netlist.specs.declared.netlist.Driver.{Driver}
use Rattle.cmb_netlist.specs.declared.netlist.Driver.TheVariants.{Input, Gate, Flop}
use Rattle.cmb_netlist.specs.Netlist.{driver_of}
use Rattle.cmb_design_model.specs.Design.{Design}
use Rattle.cmb_design_model.specs.Gate.{gate}
use Rattle.cmb_design_model.specs.Timing.{delay, initial_level}
use Rattle.cmb_design_model.specs.Value.{delayed, pin_levels, value}
use Rattle.cmb_design_model.proofs.SampleFacts.{delay-positive}
use Rattle.cmb_design_model.proofs.ValueFacts.{value-at_input, value-at_gate, value-at_flop}
use Rattle.cmb_engine.specs.Rows.{arrives, flop_row, level_held, row, LooksAt}
use Rattle.cmb_engine.proofs.ArrivalFacts.{arrives_parts, flop_level-start, flop_level-takes, flop_level-holds}

-- ---- values meet their rows

module _ (design : Design) (net source : ℕ) (flop : driver_of design.netlist net ≡ Flop source) where
  flop_row-value : (tick : ℕ) → (arrives design net tick ≡ true) ⊎ (arrives design net tick ≡ false) → value design net tick ≡ flop_row design (value design) net tick source
  flop_row-value tick (inl a) = rw a (value-at_flop design net tick source flop ∙ flop_level-takes design (value design source) net tick a)
  flop_row-value zero (inr a) = rw a (value-at_flop design net zero source flop ∙ flop_level-start design (value design source) net)
  flop_row-value (suc tick) (inr a) =
      rw a (value-at_flop design net (suc tick) source flop ∙ flop_level-holds design (value design source) net tick a ∙ sym (value-at_flop design net tick source flop))

pub value-meets_row : (design : Design) (net tick : ℕ) → value design net tick ≡ row design (value design) net tick (driver_of design.netlist net)
value-meets_row design net tick = by_driver (driver_of design.netlist net) refl
  where
    by_driver : (driver : Driver) → driver_of design.netlist net ≡ driver → value design net tick ≡ row design (value design) net tick driver
    by_driver Input e = value-at_input design net tick e
    by_driver (Gate kind operands) e = value-at_gate design net tick kind operands e
    by_driver (Flop source) e = flop_row-value design net source e tick (cases_Bool (arrives design net tick))

-- ---- rows that look at the same levels are the same

pub delayed-same : (f g : ℕ → Level) (ticks tick : ℕ) → ((past : ℕ) → past + ticks ≡ tick → f past ≡ g past) → delayed f ticks tick ≡ delayed g ticks tick
delayed-same f g ticks tick same = go (cases_lt tick ticks)
  where
    go : (tick < ticks) ⊎ (ticks ≤ tick) → delayed f ticks tick ≡ delayed g ticks tick
    go (inl l) = let e : ltb tick ticks ≡ true = lt-ltb tick ticks l in rw e
    go (inr l) = let e : ltb tick ticks ≡ false = le-ltb tick ticks l in rw e (same (tick - ticks) (omega arith))

module _ (design : Design) (f g : ℕ → ℕ → Level) (net tick : ℕ) where
  pin_levels-same : (pin : ℕ) (operands : List ℕ)
      → ((k past : ℕ) → k < length operands → past + delay design net (k + pin) ≡ tick → f (slice_index operands k) past ≡ g (slice_index operands k) past)
      → pin_levels design f net tick pin operands ≡ pin_levels design g net tick pin operands
  pin_levels-same pin [] same = refl
  pin_levels-same pin (operand ∷ operands) same =
      let first : 0 + pin ≡ pin = omega arith in
      let here : delayed (f operand) (delay design net pin) tick ≡ delayed (g operand) (delay design net pin) tick =
      delayed-same (f operand) (g operand) (delay design net pin) tick (λ past e. same 0 past (omega arith) (rw first e)) in
      let rest : pin_levels design f net tick (suc pin) operands ≡ pin_levels design g net tick (suc pin) operands =
      pin_levels-same (suc pin) operands (λ k past l e. let next : suc k + pin ≡ k + suc pin = omega arith in same (suc k) past (omega arith) (rw next e)) in
      rw (here, rest)

  flop_row-same : (source : ℕ) → ((past : ℕ) → past + delay design net 1 ≡ tick → arrives design net tick ≡ true → f source past ≡ g source past)
      → ((t : ℕ) → t < tick → f net t ≡ g net t) → (arrives design net tick ≡ true) ⊎ (arrives design net tick ≡ false)
      → flop_row design f net tick source ≡ flop_row design g net tick source
  flop_row-same source same own (inl a) =
      let parts = arrives_parts _ _ tick a in
      rw a (same (tick - delay design net 1) (omega arith) a)
  flop_row-same source same own (inr a) = rw a (held tick own)
    where
      held : (tick : ℕ) → ((t : ℕ) → t < tick → f net t ≡ g net t) → level_held (initial_level design net) (f net) tick ≡ level_held (initial_level design net) (g net) tick
      held zero own = refl
      held (suc tick) own = own tick (omega arith)

  pub row-same : (driver : Driver) → ((other past : ℕ) → LooksAt design net tick driver other past → f other past ≡ g other past)
      → ((t : ℕ) → t < tick → f net t ≡ g net t) → row design f net tick driver ≡ row design g net tick driver
  row-same Input same own = refl
  row-same (Gate kind operands) same own =
      ap (gate kind) (pin_levels-same 1 operands (λ k past l e. same (slice_index operands k) past (k, l, refl, e)))
  row-same (Flop source) same own =
      flop_row-same source (λ past e a. same source past (refl, e, a)) own (cases_Bool (arrives design net tick))

-- ---- so the rows tell the levels

pub looks-earlier : (design : Design) (net tick : ℕ) (driver : Driver) (other past : ℕ) → LooksAt design net tick driver other past → past < tick
looks-earlier design net tick Input other past looks = absurd looks
looks-earlier design net tick (Gate kind operands) other past looks = omega (arith, looks.3, delay-positive design net (looks.0 + 1))
looks-earlier design net tick (Flop source) other past looks = omega (arith, looks.1, delay-positive design net 1)

module _ (design : Design) (own : ℕ → Bool) (trace : ℕ → ℕ → Level) (from to : ℕ)
    (known : (net tick : ℕ) → own net ≡ true → tick < from → trace net tick ≡ value design net tick)
    (meets : (net tick : ℕ) → own net ≡ true → from ≤ tick → tick < to → trace net tick ≡ row design trace net tick (driver_of design.netlist net))
    (given : (net tick other past : ℕ) → own net ≡ true → from ≤ tick → tick < to → LooksAt design net tick (driver_of design.netlist net) other past
    → own other ≡ false → trace other past ≡ value design other past) where
  -- the value in the last tick, where all is known below it
  exact_at : (tick : ℕ) → tick < to → ((net t : ℕ) → own net ≡ true → t < tick → trace net t ≡ value design net t)
      → (net : ℕ) → own net ≡ true → (tick < from) ⊎ (from ≤ tick) → trace net tick ≡ value design net tick
  exact_at tick fits below net o (inl early) = known net tick o early
  exact_at tick fits below net o (inr late) =
      meets net tick o late fits
      ∙ row-same design trace (value design) net tick (driver_of design.netlist net)
      (λ other past looks. seen other past looks (cases_Bool (own other))) (λ t earlier. below net t o earlier)
      ∙ sym (value-meets_row design net tick)
    where
      seen : (other past : ℕ) → LooksAt design net tick (driver_of design.netlist net) other past
          → (own other ≡ true) ⊎ (own other ≡ false) → trace other past ≡ value design other past
      seen other past looks (inl a) = below other past a (looks-earlier design net tick (driver_of design.netlist net) other past looks)
      seen other past looks (inr a) = given net tick other past o late fits looks a

  exact_below : (bound : ℕ) → bound ≤ to → (net tick : ℕ) → own net ≡ true → tick < bound → trace net tick ≡ value design net tick
  exact_below zero fits net tick o l = absurd (omega arith)
  exact_below (suc bound) fits net tick o l = go (exact_below bound (omega arith)) (cases_lt tick bound)
    where
      go : ((net tick : ℕ) → own net ≡ true → tick < bound → trace net tick ≡ value design net tick)
          → (tick < bound) ⊎ (bound ≤ tick) → trace net tick ≡ value design net tick
      go below (inl earlier) = below net tick o earlier
      go below (inr last) = exact_at tick (omega arith) (λ other t a h. below other t a (omega arith)) net o (cases_lt tick from)

  pub rows-tell : (net tick : ℕ) → own net ≡ true → tick < to → trace net tick ≡ value design net tick
  rows-tell net tick o l = exact_below to (omega arith) net tick o l
