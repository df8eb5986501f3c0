-- One number more, below which the numbers that pass a test are counted.
use Rattle.std.proofs.Common.{◌≡◌, ℕ, zero, suc, ◌+◌, ◌<◌, Bool, false, add-one, arith, refl}
use Rattle.std.specs.Prelude.{if◌then◌else◌}
use Rattle.cmb_count.specs.Below.{count_below}

pub count_below_next : (test : ℕ → Bool) (n : ℕ) → count_below test (n + 1) ≡ count_below test n + (if test n then 1 else 0)
unfolding count_below
count_below_next test n = rw add-one refl

pub count_below-fail : (test : ℕ → Bool) (n : ℕ) → test n ≡ false → count_below test (n + 1) ≡ count_below test n
count_below-fail test n fails =
    let e = count_below_next test n in
    let f : count_below test (n + 1) ≡ count_below test n + 0 = rw fails at e in omega (arith, f)

pub count_below_none : (test : ℕ → Bool) → count_below test 0 ≡ 0
unfolding count_below
count_below_none test = refl

-- tests that agree below a number count the same
pub count_below-same : (f g : ℕ → Bool) (n : ℕ) → ((k : ℕ) → k < n → f k ≡ g k) → count_below f n ≡ count_below g n
unfolding count_below
count_below-same f g zero same = refl
count_below-same f g (suc n) same = rw (same n (omega arith), count_below-same f g n (λ k h. same k (omega arith))) refl
