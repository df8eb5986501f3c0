use Rattle.std.proofs.Common.{ℕ, ap}
use Rattle.std.specs.Prelude.{◌==◌}
use Rattle.std.proofs.lemmas.Nat.Bits.{shr_and_one}
use Rattle.cmb_words.specs.Bits.{is_set_at}
use Rattle.cmb_activity.proofs.counting.is_set.Goals as goal

pub returns : goal.returns
unfolding is_set_at
returns c = ap (λ (n : ℕ). n == 1) (shr_and_one c.args.bits c.args.place)
