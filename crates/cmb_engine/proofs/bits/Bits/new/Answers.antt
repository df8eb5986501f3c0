use Rattle.std.proofs.Common.{◌≡◌, ◌+◌, ◌/◌, replicate, ap, ◌∙◌, rules}
use Rattle.cmb_engine.specs.Inner.Bits.{has}
use Rattle.cmb_engine.proofs.BitFacts.{has-none}
use Rattle.cmb_engine.proofs.bits.Bits.new.Goals as goal

pub returns-clause-none : goal.returns-clause-none
returns-clause-none c = λ m.
    let items : c.in_ok-vec.field-0.items ≡ replicate (c.args.count / 64 + 1) 0 = search rules in
    ap (λ words. has words m) items ∙ has-none (c.args.count / 64 + 1) m
