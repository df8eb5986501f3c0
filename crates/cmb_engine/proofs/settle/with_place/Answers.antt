use Rattle.std.proofs.Common.{◌≡◌, ℕ, ◌*◌, ◌%◌, ◌^◌, ◌<◌, ◌≢◌, ◌||◌, ◌==◌, Bool, true, false, ap, arith, w64}
use Rattle.std.proofs.lemmas.Bool.{eq-eqb}
use Rattle.std.proofs.lemmas.Nat.Bits.{bit_at-zero, bit_at_or, bit_at_set_same, bit_at_set_other}
use Rattle.std.specs.Prelude.{bit_or}
use Rattle.std.specs.Int.{bit_at, from_bool}
use Rattle.cmb_words.specs.Bits.{is_set_at}
use Rattle.cmb_engine.proofs.settle.with_place.Goals as goal

abbrev with_one : ℕ → ℕ → ℕ → ℕ
with_one mask place one = bit_or mask (one * 2 ^ place % 2 ^ 64)

same-bit : (mask place one i : ℕ) → one ≡ 0 → bit_at (with_one mask place one) i ≡ bit_at mask i
same-bit mask place one i none =
    let e : one * 2 ^ place % 2 ^ 64 ≡ 0 = rw none (omega arith) in
    omega (arith, bit_at_or mask (one * 2 ^ place % 2 ^ 64) i, ap (λ (n : ℕ). bit_at n i) e, bit_at-zero i)

place-here : (mask place one : ℕ) (wanted : Bool) → place < 64 → one ≡ from_bool wanted → is_set_at (with_one mask place one) place ≡ (wanted || is_set_at mask place)
unfolding is_set_at
place-here mask place one true small is = rw is (eq-eqb _ _ (bit_at_set_same w64 mask place small))
place-here mask place one false small is = ap (λ (b : ℕ). b == 1) (same-bit mask place one place is)

place-others : (mask place one i : ℕ) (wanted : Bool) → place < 64 → one ≡ from_bool wanted → i ≢ place → is_set_at (with_one mask place one) i ≡ is_set_at mask i
unfolding is_set_at
place-others mask place one i true small is other = rw is (ap (λ (b : ℕ). b == 1) (bit_at_set_other w64 mask place small i other))
place-others mask place one i false small is other = ap (λ (b : ℕ). b == 1) (same-bit mask place one i is)

pub returns-clause-here : goal.returns-clause-here
returns-clause-here c = place-here c.args.mask c.args.place c.from.result c.args.is_wanted c.requires c.from.ensures

pub returns-clause-others : goal.returns-clause-others
returns-clause-others c = λ i other. place-others c.args.mask c.args.place c.from.result i c.args.is_wanted c.requires c.from.ensures other
