use Rattle.std.proofs.Common.{◌≡◌, ℕ, ◌+◌, ◌/◌, true, subst, arith}
use Rattle.cmb_engine.specs.Inner.Bits.{has}
use Rattle.cmb_engine.proofs.BitFacts.{and-unset}
use Rattle.cmb_engine.proofs.wanted.wanted_among.Goals as goal

pub returns-clause-others : goal.returns-clause-others
returns-clause-others c place small unset want =
    and-unset c.args.wanted.now (c.args.batch.base / 64) c.args.batch.places c.word.result place small c.word.ensures unset (subst (λ (base : ℕ). has c.args.wanted.now (base + place) ≡ true) (omega (arith, c.requires)) want)
