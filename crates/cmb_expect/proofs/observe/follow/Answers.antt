use Rattle.std.proofs.Common.{◌≡◌, ◌+◌, ◌<◌, ℕ, suc, List, [], ◌∷◌, ◌∙◌, ap, arith, drop, drop-cons, length, refl, set, subst, sym}
use Rattle.std.specs.Prelude.{Contains}
use Rattle.std.proofs.lemmas.List.{drop_all}
use Rattle.std.proofs.lemmas.List.Elements.{Contains-get_or}
use Rattle.cmb_words.specs.declared.changed.Changed.{Changed}
use Rattle.cmb_expect.specs.declared.trace.Trace.{Trace}
use Rattle.cmb_expect.proofs.TraceFacts.{AreTaken, begins, ends, goes_on}
use Rattle.cmb_expect.proofs.observe.follow.Goals as goal

pub loop-one-init : goal.loop-one-init
loop-one-init c = begins c.args.traces.now c.args.changed.now c.args.upto

pub loop-one-preserved : goal.loop-one-preserved
loop-one-preserved c =
    subst (λ (k : ℕ). AreTaken old (set c.loop-one.traces item.net new) changed (drop k changed) c.args.upto) (let e : suc c.loop-one.one-index ≡ c.loop-one.one-index + 1 = omega arith in e)
    (goes_on old c.loop-one.traces changed item (drop (suc c.loop-one.one-index) changed) c.args.upto new
    (subst (λ (rest : List Changed). AreTaken old c.loop-one.traces changed rest c.args.upto) here c.loop-one.invariant)
    (subst (Contains changed) (sym c.one-item.is) (Contains-get_or changed c.loop-one.one-index item c.loop-one-test.true))
    inside refl refl)
  where
    old : List Trace
    old = c.args.traces.now

    changed : List Changed
    changed = c.args.changed.now

    item : Changed
    item = c.one-item.result

    new : Trace
    new = record { word = item.word; upto = c.args.upto }

    inside : item.net < length old
    inside = omega (arith, c.requires c.loop-one.one-index item c.loop-one-test.true, ap (λ (one : Changed). one.net) c.one-item.is)

    here : drop c.loop-one.one-index changed ≡ item ∷ drop (suc c.loop-one.one-index) changed
    here =
        drop-cons changed c.loop-one.one-index item c.loop-one-test.true
        ∙ ap (λ (one : Changed). one ∷ drop (suc c.loop-one.one-index) changed) (sym c.one-item.is)

pub returns : goal.returns
returns c =
    ends c.args.traces.now c.loop-one.traces c.args.changed.now c.args.upto
    (subst (λ (rest : List Changed). AreTaken c.args.traces.now c.loop-one.traces c.args.changed.now rest c.args.upto)
    (drop_all c.loop-one.one-index c.args.changed.now c.loop-one-test.false) c.loop-one.invariant)
