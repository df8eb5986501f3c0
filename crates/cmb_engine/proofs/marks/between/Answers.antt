use Rattle.std.proofs.Common.{◌≡◌, ℕ, ◌-◌, ◌<◌, ◌/◌, ◌^◌, min, ap, ap₂, ◌∙◌, arith}
use Rattle.std.specs.Int.{bit_at}
use Rattle.std.proofs.lemmas.Bool.{eq-eqb}
use Rattle.std.proofs.lemmas.Nat.Bits.{bit_at_and, bit_at_ones, ones_shr}
use Rattle.cmb_words.specs.Bits.{is_set_at}
use Rattle.cmb_words.proofs.BitFacts.{mask_from}
use Rattle.cmb_engine.proofs.marks.between.Goals as goal

pub returns : goal.returns
unfolding is_set_at
returns c = λ place from to.
    let fits : place < 64 = omega (arith, to, c.requires.fits) in
    let high : bit_at ((2 ^ 64 - 1) / 2 ^ (64 - c.args.to)) place ≡ 1 =
    ap (λ (n : ℕ). bit_at n place) (ones_shr 64 (64 - c.args.to) (omega arith)) ∙ bit_at_ones (64 - (64 - c.args.to)) place (omega (arith, to, c.requires.fits)) in
    eq-eqb _ _ (bit_at_and _ _ place ∙ ap₂ (λ (x y : ℕ). min x y) (mask_from c.args.from place from fits) high)
