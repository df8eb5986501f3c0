use Rattle.std.proofs.Common.{◌≡◌, ◌+◌, ◌≤◌, ℕ, List, length, replicate, sym, subst, ap₂, ◌∙◌, arith, rules}
use Rattle.cmb_engine.specs.Inner.Lists.{lists_between, AreStarts}
use Rattle.cmb_engine.proofs.JoinFacts.{none-between, starts-none}
use Rattle.cmb_engine.proofs.readers.Readers.empty.Goals as goal

pub invariant_of-result : goal.invariant_of-result
invariant_of-result c =
    let items : c.in_ok-vec.field-0.items ≡ replicate c.in-Some.starts 0 = search rules in
    let some : 1 ≤ c.in-Some.starts = omega (arith, c.in-Some.ensures) in
    subst (λ (nets : List ℕ). AreStarts (length nets) c.in_ok-vec.field-0.items) (sym c.new.ensures.items) (subst (AreStarts 0) (sym items) (starts-none c.in-Some.starts some))

pub returns : goal.returns
returns c =
    let items : c.in_ok-vec.field-0.items ≡ replicate c.in-Some.starts 0 = search rules in
    let all : c.in-Some.starts ≡ c.args.count + 1 = omega (arith, c.in-Some.ensures) in
    ap₂ lists_between c.new.ensures.items items ∙ none-between c.args.count c.in-Some.starts all
