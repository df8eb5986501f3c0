use Rattle.std.proofs.Common.{◌≡◌, ◌+◌, ◌*◌, ◌/◌, replicate, ap, ◌∙◌, rules}
use Rattle.cmb_engine.specs.Inner.Flags.{is_flagged}
use Rattle.cmb_engine.proofs.FlagFacts.{flag-none}
use Rattle.cmb_engine.proofs.flags.Flags.new.Goals as goal

pub returns-clause-none : goal.returns-clause-none
returns-clause-none c = λ k.
    let items : c.in_ok-vec.field-0.items ≡ replicate (8 * (c.args.count / 8 + 1)) 0 = search rules in
    ap (λ flags. is_flagged flags k) items ∙ flag-none (8 * (c.args.count / 8 + 1)) k
