-- Clocks in a set, as pairs of their first ticks and their periods.
use Rattle.std.specs.Prelude.{◌≡◌, ℕ, Bool}
use Rattle.std.specs.BTreeSet.{BTreeSet, contains}
use Rattle.std.specs.Ordering.{nat_cmp, ordering_then}
use Rattle.std.specs.declared.cmp.Ordering.{Ordering}
use Rattle.cmb_design_model.specs.Design.{Design}
use Rattle.cmb_design_model.specs.Settings.{any_below}
use Rattle.cmb_design_model.specs.declared.rows.Clock.{Clock}
use Rattle.cmb_count.specs.Clocks.{is_clocked_by}

-- by first ticks, and then by periods
abbrev pub pair_cmp : ℕ × ℕ → ℕ × ℕ → Ordering
pair_cmp one other = ordering_then (nat_cmp one.0 other.0) (nat_cmp one.1 other.1)

abbrev pub has_clock : BTreeSet (ℕ × ℕ) → Clock → Bool
has_clock clocks clock = contains pair_cmp clocks (clock.first, clock.period)

-- the set has the clocks of the flip-flops below this number
abbrev pub AreClocksBelow : Design → ℕ → BTreeSet (ℕ × ℕ) → Type 0
AreClocksBelow design net clocks = (clock : Clock) → has_clock clocks clock ≡ any_below (is_clocked_by design clock) net
