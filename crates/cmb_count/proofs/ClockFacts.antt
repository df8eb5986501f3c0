-- The clocks of the first flip-flops.
use Rattle.std.proofs.Common.{◌≡◌, ◌∙◌, ◌||◌, ℕ, ◌+◌, Bool, true, false, cond, add-one, ap, sym, refl, arith}
use Rattle.std.specs.Cmp.{both_tied, unsigned_ties}
use Rattle.std.specs.Ordering.{is_eq, nat_cmp}
use Rattle.std.specs.Prelude.{◌==◌, ◌&&◌, if◌then◌else◌}
use Rattle.std.proofs.lemmas.Bool.{eq-eqb, eqb-false, eqb-true, ne_eqb}
use Rattle.cmb_netlist.specs.Netlist.{driver_of}
use Rattle.cmb_design_model.specs.Design.{Design}
use Rattle.cmb_design_model.specs.Nets.{is_flop}
use Rattle.cmb_design_model.specs.Settings.{any_below}
use Rattle.cmb_design_model.specs.Timing.{clock_of}
use Rattle.cmb_design_model.specs.declared.rows.Clock.{Clock}
use Rattle.cmb_count.specs.Below.{count_below}
use Rattle.cmb_count.specs.Clocks.{is_clocked_by, is_first_clocked, same_clock}
use Rattle.cmb_count.specs.Inner.ClockSets.{pair_cmp}
use Rattle.cmb_count.proofs.BelowFacts.{count_below-fail, count_below_next}

or_same : (a : Bool) → a ≡ (a || false)
or_same true = refl
or_same false = refl

-- clocks are the same whose pairs the order doesn't tell apart
tied : (one other : Clock) → same_clock one other ≡ is_eq (pair_cmp (one.first, one.period) (other.first, other.period))
tied one other = both_tied _ _ (nat_cmp one.first other.first) (nat_cmp one.period other.period) (unsigned_ties one.first other.first) (unsigned_ties one.period other.period)

eqb-sym : (a b : ℕ) → (a == b) ≡ (b == a)
eqb-sym a b = by (a == b) refl
  where
    by : (t : Bool) → (a == b) ≡ t → (a == b) ≡ (b == a)
    by true e = e ∙ sym (eq-eqb b a (sym (eqb-true a b e)))
    by false e = e ∙ sym (ne_eqb b a (λ same. eqb-false a b e (sym same)))

same_sym : (one other : Clock) → same_clock one other ≡ same_clock other one
same_sym one other = ap (λ b. b && (one.period == other.period)) (eqb-sym one.first other.first) ∙ ap (λ b. (other.first == one.first) && b) (eqb-sym one.period other.period)

or_cond : (a b : Bool) → cond a true b ≡ (b || a)
or_cond true true = refl
or_cond true false = refl
or_cond false true = refl
or_cond false false = refl

-- what a set has after a clock was put into it
pub noted : (b new : Bool) (clock other : Clock) → new ≡ cond (is_eq (pair_cmp (clock.first, clock.period) (other.first, other.period))) true b
    → new ≡ (b || same_clock other clock)
noted b new clock other is = is ∙ ap (λ t. cond t true b) (sym (tied clock other) ∙ same_sym clock other) ∙ or_cond (same_clock other clock) b

-- a net that is no flip-flop has no clock
pub passed : (design : Design) (net : ℕ) (clock : Clock) (b : Bool) → is_flop (driver_of design.netlist net) ≡ false
    → b ≡ any_below (is_clocked_by design clock) net → b ≡ any_below (is_clocked_by design clock) (net + 1)
unfolding any_below
passed design net clock b none old = old ∙ rw (add-one, none) (or_same (any_below (is_clocked_by design clock) net))

pub passed_count : (design : Design) (net n : ℕ) → is_flop (driver_of design.netlist net) ≡ false
    → n ≡ count_below (is_first_clocked design) net → n ≡ count_below (is_first_clocked design) (net + 1)
passed_count design net n none old =
    let fails : is_first_clocked design net ≡ false = rw (none) refl in
    old ∙ sym (count_below-fail (is_first_clocked design) net fails)

-- a flip-flop's clock is one that there is
pub met : (design : Design) (net : ℕ) (clock : Clock) (b : Bool) → is_flop (driver_of design.netlist net) ≡ true
    → b ≡ any_below (is_clocked_by design clock) net → (b || same_clock clock (clock_of design net)) ≡ any_below (is_clocked_by design clock) (net + 1)
unfolding any_below
met design net clock b flop old = rw (add-one, flop, old) refl

pub met_count : (design : Design) (net n : ℕ) (b : Bool) → is_flop (driver_of design.netlist net) ≡ true
    → b ≡ any_below (is_clocked_by design (clock_of design net)) net
    → n ≡ count_below (is_first_clocked design) net → n + (if b then 0 else 1) ≡ count_below (is_first_clocked design) (net + 1)
met_count design net n true flop old is =
    let fails : is_first_clocked design net ≡ false = rw (flop, sym old) refl in
    let e = count_below-fail (is_first_clocked design) net fails in omega (arith, e, is)
met_count design net n false flop old is =
    let passes : is_first_clocked design net ≡ true = rw (flop, sym old) refl in
    let e = count_below_next (is_first_clocked design) net in
    let f : count_below (is_first_clocked design) (net + 1) ≡ count_below (is_first_clocked design) net + 1 = rw passes at e in omega (arith, f, is)

-- below net 0 there is none
pub none_before : (design : Design) (clock : Clock) → false ≡ any_below (is_clocked_by design clock) 0
unfolding any_below
none_before design clock = refl
