use Rattle.std.proofs.Common.{◌≡◌, ◌+◌, ℕ, drop, List, ◌∷◌, set, ◌∙◌, ap, suc, arith, sym, subst, drop-cons}
use Rattle.std.specs.Prelude.{slice_index_or}
use Rattle.std.proofs.lemmas.List.{drop_all}
use Rattle.cmb_design_model.specs.Exact.{nets_of}
use Rattle.cmb_design_model.specs.Value.{value}
use Rattle.cmb_words.specs.declared.changed.Changed.{Changed}
use Rattle.cmb_activity.specs.Inner.Tallies.{CanGrow}
use Rattle.cmb_activity.proofs.WindowFacts.{AreCounted, finishes, goes_on, next_can_grow, next_is}
use Rattle.cmb_activity.proofs.measure.count_window.Goals as goal

pub grown-requires-clause-fits : goal.grown-requires-clause-fits
grown-requires-clause-fits c =
    subst (λ (h : ℕ). CanGrow c.args.from c.args.upto h c.one-item.result.word.ones c.one-item.result.word.unknown (slice_index_or c.loop-one.tallies c.one-item.result.net _))
    (sym c.horizon-horizon.ensures.value)
    (next_can_grow (value c.args.design.now) (nets_of c.args.design.now) c.args.from c.args.upto c.args.design.now.horizon c.one-item.result
    (drop (suc c.loop-one.one-index) c.args.changed.now) c.loop-one.tallies _ c.requires.window.order c.requires.window.short c.requires.window.within (omega (arith, c.horizon-horizon.ensures.value, c.horizon-horizon.ensures.small.1))
    (subst (λ (rest : List Changed). AreCounted (value c.args.design.now) (nets_of c.args.design.now) c.args.from c.args.upto c.args.design.now.horizon rest c.loop-one.tallies) here c.loop-one.invariant))
  where
    here : drop c.loop-one.one-index c.args.changed.now ≡ c.one-item.result ∷ drop (suc c.loop-one.one-index) c.args.changed.now
    here =
        drop-cons c.args.changed.now c.loop-one.one-index c.one-item.result c.loop-one-test.true
        ∙ ap (λ (item : Changed). item ∷ drop (suc c.loop-one.one-index) c.args.changed.now) (sym c.one-item.is)

pub loop-one-preserved : goal.loop-one-preserved
loop-one-preserved c =
    subst (λ (k : ℕ). AreCounted (value c.args.design.now) (nets_of c.args.design.now) c.args.from c.args.upto c.args.design.now.horizon (drop k c.args.changed.now) (set c.loop-one.tallies c.one-item.result.net c.grown.result))
    (let e : suc c.loop-one.one-index ≡ c.loop-one.one-index + 1 = omega arith in e)
    (goes_on (value c.args.design.now) (nets_of c.args.design.now) c.args.from c.args.upto c.args.design.now.horizon c.one-item.result
    (drop (suc c.loop-one.one-index) c.args.changed.now) c.loop-one.tallies c.grown.result c.requires.window.order c.requires.window.within amid
    (next_is (value c.args.design.now) (nets_of c.args.design.now) c.args.from c.args.upto c.args.design.now.horizon c.horizon-horizon.result c.one-item.result
    (drop (suc c.loop-one.one-index) c.args.changed.now) c.loop-one.tallies _ c.grown.result c.horizon-horizon.ensures.value amid (c.grown.ensures (value c.args.design.now c.one-item.result.net))))
  where
    here : drop c.loop-one.one-index c.args.changed.now ≡ c.one-item.result ∷ drop (suc c.loop-one.one-index) c.args.changed.now
    here =
        drop-cons c.args.changed.now c.loop-one.one-index c.one-item.result c.loop-one-test.true
        ∙ ap (λ (item : Changed). item ∷ drop (suc c.loop-one.one-index) c.args.changed.now) (sym c.one-item.is)

    amid : AreCounted (value c.args.design.now) (nets_of c.args.design.now) c.args.from c.args.upto c.args.design.now.horizon
        (c.one-item.result ∷ drop (suc c.loop-one.one-index) c.args.changed.now) c.loop-one.tallies
    amid = subst (λ (rest : List Changed). AreCounted (value c.args.design.now) (nets_of c.args.design.now) c.args.from c.args.upto c.args.design.now.horizon rest c.loop-one.tallies) here c.loop-one.invariant

pub returns : goal.returns
returns c =
    finishes (value c.args.design.now) (nets_of c.args.design.now) c.args.from c.args.upto c.args.design.now.horizon c.loop-one.tallies c.requires.window.order c.requires.window.within
    (subst (λ (rest : List Changed). AreCounted (value c.args.design.now) (nets_of c.args.design.now) c.args.from c.args.upto c.args.design.now.horizon rest c.loop-one.tallies)
    (drop_all c.loop-one.one-index c.args.changed.now c.loop-one-test.false) c.loop-one.invariant)
