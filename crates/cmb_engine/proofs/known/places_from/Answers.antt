use Rattle.std.proofs.Common.{ℕ, ap, arith}
use Rattle.std.specs.Prelude.{◌==◌}
use Rattle.cmb_words.specs.Bits.{is_set_at}
use Rattle.cmb_words.proofs.BitFacts.{mask_below, mask_from}
use Rattle.cmb_engine.proofs.known.places_from.Goals as goal

pub returns-clause-below : goal.returns-clause-below
unfolding is_set_at
returns-clause-below c = λ i below. ap (λ (b : ℕ). b == 1) (mask_below c.args.place i below (omega arith))

pub returns-clause-from : goal.returns-clause-from
unfolding is_set_at
returns-clause-from c = λ i from small. ap (λ (b : ℕ). b == 1) (mask_from c.args.place i from small)
