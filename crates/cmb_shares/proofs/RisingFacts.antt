-- Changes by rising number, by places and as a list.
use Rattle.std.proofs.Common.{ℕ, zero, suc, ◌<◌, ◌≤◌, List, [], ◌∷◌, length, get_or, arith}
use Rattle.std.specs.Prelude.{All}
use Rattle.cmb_words.specs.Changes.{RisesWithin}
use Rattle.cmb_words.specs.declared.changed.Changed.{Changed}
use Rattle.cmb_shares.specs.Inner.Messages.{Rise}

rises_above : (low nets : ℕ) (changes : List Changed) (k : ℕ) (d : Changed) → RisesWithin low nets changes → k < length changes → low ≤ (get_or changes k d).net
rises_above low nets [] k d rises h = absurd (omega arith)
rises_above low nets (c ∷ cs) zero d rises h = rises.0
rises_above low nets (c ∷ cs) (suc k) d rises h = let later = rises_above (suc c.net) nets cs k d rises.2 (omega arith) in omega (arith, later)

pub rise-of : (low nets : ℕ) (changes : List Changed) → RisesWithin low nets changes → Rise changes
rise-of low nets [] rises j k d l h = absurd (omega arith)
rise-of low nets (c ∷ cs) rises zero zero d l h = absurd (omega arith)
rise-of low nets (c ∷ cs) rises zero (suc k) d l h = rises_above (suc c.net) nets cs k d rises.2 (omega arith)
rise-of low nets (c ∷ cs) rises (suc j) zero d l h = absurd (omega arith)
rise-of low nets (c ∷ cs) rises (suc j) (suc k) d l h = rise-of (suc c.net) nets cs rises.2 j k d (omega arith) (omega arith)

rises-above : (low nets : ℕ) (changes : List Changed) → Rise changes → All (λ one. low ≤ one.net) changes → All (λ one. one.net < nets) changes → RisesWithin low nets changes
rises-above low nets [] rise above within = tt
rises-above low nets (c ∷ cs) rise above within = (
  above 0 c (omega arith),
  within 0 c (omega arith),
  rises-above (suc c.net) nets cs (λ j k d l h. rise (suc j) (suc k) d (omega (arith, l)) (omega (arith, h)))
      (λ k d h. rise 0 (suc k) d (omega arith) (omega (arith, h))) (λ k d h. within (suc k) d (omega (arith, h))),
)

pub rises-within : (nets : ℕ) (changes : List Changed) → Rise changes → All (λ one. one.net < nets) changes → RisesWithin 0 nets changes
rises-within nets changes rise within = rises-above 0 nets changes rise (λ k d h. omega arith) within
