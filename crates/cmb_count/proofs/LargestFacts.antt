-- The greater of a delay and of those before it.
use Rattle.std.proofs.Common.{◌≡◌, ℕ, ◌+◌, ◌<◌, ◌≤◌, Bool, true, false, nat_lt, max, inr, arith, refl, subst, length}
use Rattle.std.proofs.lemmas.Bool.{ltb-true, ltb-false}
use Rattle.cmb_design_model.specs.Design.{Design}
use Rattle.cmb_design_model.specs.Nets.{pins_at}
use Rattle.cmb_design_model.specs.Timing.{delay}
use Rattle.cmb_count.specs.Largest.{IsDelayOfPin}

-- what holds of pins up to one, and of the next, holds of pins up to the next
pub bounds-next : (design : Design) (net place most more : ℕ)
    → ((pin : ℕ) → 1 ≤ pin → pin ≤ place → delay design net pin ≤ most) → most ≤ more → delay design net (place + 1) ≤ more
    → (pin : ℕ) → 1 ≤ pin → pin ≤ place + 1 → delay design net pin ≤ more
bounds-next design net place most more below rises here pin low high = by (nat_lt place pin) refl
  where
    by : (b : Bool) → nat_lt place pin ≡ b → delay design net pin ≤ more
    by true e =
        let above : place < pin = ltb-true place pin e in
        let last : place + 1 ≡ pin = omega arith in
        subst (λ (k : ℕ). delay design net k ≤ more) last here
    by false e = let within : pin ≤ place = ltb-false place pin e in let old = below pin low within in omega (arith, old)

-- the greater of two that are 0 or delays of pins is one
pub IsDelayOfPin-max : (design : Design) (net pin most more : ℕ) → net < length design.netlist.names → 1 ≤ pin → pin ≤ pins_at design.netlist net
    → more ≡ max most (delay design net pin) → IsDelayOfPin design most → IsDelayOfPin design more
IsDelayOfPin-max design net pin most more within low high is old = by (nat_lt most (delay design net pin)) refl
  where
    by : (b : Bool) → nat_lt most (delay design net pin) ≡ b → IsDelayOfPin design more
    by true e =
        let less : most < delay design net pin = ltb-true most (delay design net pin) e in
        let same : delay design net pin ≡ more = omega (arith, is) in
        inr (net, pin, within, low, high, same)
    by false e =
        let less : delay design net pin ≤ most = ltb-false most (delay design net pin) e in
        let same : most ≡ more = omega (arith, is) in
        subst (IsDelayOfPin design) same old
