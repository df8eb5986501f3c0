use Rattle.std.proofs.Common.{◌≡◌, ℕ, ◌*◌, ◌<◌, true, length, List}
use Rattle.cmb_engine.specs.Inner.Bits.{has}
use Rattle.cmb_engine.proofs.open.all_below.Given as goal

-- all numbers so far are in, and there is room for all
pub record IsFilled (marks : List ℕ) (count number : ℕ) : Type 0 where
  pub room : count < 64 * length marks
  pub all : (m : ℕ) → m < number → has marks m ≡ true

abbrev pub invariant-loop-number : goal.invariant-loop-number
invariant-loop-number l = IsFilled l.marks l.count l.number
