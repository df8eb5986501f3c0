-- Lists of nets by rising number.
use Rattle.std.proofs.Common.{ℕ, zero, suc, ◌<◌, ◌≤◌, List, [], ◌∷◌, ◌++◌, length, get_or, arith}
use Rattle.cmb_words.specs.declared.changed.Changed.{Changed}
use Rattle.cmb_words.specs.Changes.{RisesWithin}

-- nets below a number are below a greater one
pub rises-wider : (low nets more : ℕ) (changed : List Changed) → RisesWithin low nets changed → nets ≤ more → RisesWithin low more changed
rises-wider low nets more [] rises h = tt
rises-wider low nets more (c ∷ cs) rises h = (rises.0, omega (arith, rises.1), rises-wider (suc c.net) nets more cs rises.2 h)

-- a net that isn't below `next`, after nets that are
pub rises-push : (low next nets : ℕ) (changed : List Changed) (one : Changed) → RisesWithin low next changed → low ≤ one.net → next ≤ one.net → one.net < nets
    → RisesWithin low nets (changed ++ one ∷ [])
rises-push low next nets [] one rises a b h = (a, h, tt)
rises-push low next nets (c ∷ cs) one rises a b h =
    (rises.0, omega (arith, rises.1), rises-push (suc c.net) next nets cs one rises.2 (omega (arith, rises.1)) b h)

-- each net is below their number
pub rises_at : (low nets : ℕ) (changed : List Changed) (i : ℕ) (d : Changed) → RisesWithin low nets changed → i < length changed → (get_or changed i d).net < nets
rises_at low nets [] i d rises h = absurd (omega arith)
rises_at low nets (c ∷ cs) zero d rises h = rises.1
rises_at low nets (c ∷ cs) (suc i) d rises h = rises_at (suc c.net) nets cs i d rises.2 (omega arith)
