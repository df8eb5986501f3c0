-- A window's changes counted, net by net.
use Rattle.std.proofs.Common.{◌≡◌, ℕ, suc, ◌+◌, ◌-◌, ◌<◌, ◌≤◌, false, List, [], ◌∷◌, ◌++◌, All, length, length-append, get_or, set, drop, take, ◌⊎◌, inl, inr, refl, sym, ap, subst, ◌∙◌, arith}
use Rattle.std.specs.Prelude.{◌==◌}
use Rattle.std.proofs.lemmas.Bool.{cases_lt}
use Rattle.std.proofs.lemmas.Bool.Decides.{nat_tests}
use Rattle.std.proofs.lemmas.List.{append-nil, drop_all, take_all, get_or_append_left, get_or-set_other, get_or-set_same, length-set}
use Rattle.std.proofs.Math.Seq.{get_or-append_seam}
use Rattle.std.proofs.lemmas.List.Elements.{All-head, All-tail}
use Rattle.cmb_words.specs.Word.{level_at_place}
use Rattle.cmb_wave.specs.declared.level.Level.{Level}
use Rattle.cmb_words.specs.declared.changed.Changed.{Changed}
use Rattle.cmb_words.specs.Changes.{IsStill, IsWindow, RisesWithin, Tells, TellsNet, is_among}
use Rattle.cmb_words.proofs.TellsFacts.{tells-level}
use Rattle.cmb_activity.specs.declared.tally.Tally.{Tally}
use Rattle.cmb_activity.specs.Activities.{AreActivitiesOf, IsActivity}
use Rattle.cmb_activity.specs.declared.activity.Activity.{Activity}
use Rattle.cmb_activity.specs.Inner.Tallies.{AreTallies, CanGrow, IsTally}
use Rattle.cmb_activity.proofs.TallyFacts.{can_grow, kept}

-- of the changes of a window the first are counted, those of nets below `low`, and the rest is left
pub record AreCounted (level : ℕ → ℕ → Level) (nets from upto horizon : ℕ) (rest : List Changed) (tallies : List Tally) : Type 0 where
  pub low : ℕ
  pub count : length tallies ≡ nets
  pub rises : RisesWithin low nets rest
  pub words : All (TellsNet level from upto) rest
  pub others : (net : ℕ) → low ≤ net → net < nets → is_among net rest ≡ false → IsStill (level net) from upto
  pub done : (net : ℕ) (d : Tally) → net < low → net < nets → IsTally (level net) upto horizon (get_or tallies net d)
  pub left : (net : ℕ) (d : Tally) → low ≤ net → net < nets → IsTally (level net) from horizon (get_or tallies net d)

not_among : (net low nets : ℕ) (changed : List Changed) → net < low → RisesWithin low nets changed → is_among net changed ≡ false
not_among net low nets [] below rises = refl
not_among net low nets (c ∷ cs) below rises =
    let above : low ≤ c.net = rises.0 in
    let other : (c.net == net) ≡ false = grind (arith, nat_tests) in
    rw other (not_among net (suc c.net) nets cs (omega arith) rises.2)

among_below : (net : ℕ) (c : Changed) (cs : List Changed) → c.net < net → is_among net cs ≡ false → is_among net (c ∷ cs) ≡ false
among_below net c cs below none =
    let other : (c.net == net) ≡ false = grind (arith, nat_tests) in
    rw other none

-- ---- the loop

pub begins : (level : ℕ → ℕ → Level) (nets from upto horizon : ℕ) (changed : List Changed) (tallies : List Tally) → IsWindow nets horizon from upto changed
    → Tells level nets from upto changed → AreTallies level nets from horizon tallies → AreCounted level nets from upto horizon changed tallies
begins level nets from upto horizon changed tallies window tells all = record {
  low = 0;
  count = all.count;
  rises = window.nets;
  words = tells.words;
  others = λ net late within none. tells.others net within none;
  done = λ net d below within. absurd (omega (arith, below));
  left = λ net d late within. all.each net d within;
}

-- what the next word tells
next_tells : (level : ℕ → ℕ → Level) (nets from upto horizon : ℕ) (c : Changed) (cs : List Changed) (tallies : List Tally)
    → AreCounted level nets from upto horizon (c ∷ cs) tallies
    → (tick : ℕ) → from ≤ tick + 1 → tick < upto → level_at_place c.word (tick + 64 - upto) ≡ level c.net tick
next_tells level nets from upto horizon c cs tallies amid tick after below =
    tells-level level from upto c (All-head (TellsNet level from upto) c cs amid.words) tick (omega (arith, after)) below

-- it can be counted on top of what was counted of its net
pub next_can_grow : (level : ℕ → ℕ → Level) (nets from upto horizon : ℕ) (c : Changed) (cs : List Changed) (tallies : List Tally) (d : Tally) → from < upto → upto ≤ from + 63
    → upto ≤ horizon → horizon ≤ 1000000
    → AreCounted level nets from upto horizon (c ∷ cs) tallies → CanGrow from upto horizon c.word.ones c.word.unknown (get_or tallies c.net d)
next_can_grow level nets from upto horizon c cs tallies d order short within small amid =
    can_grow (level c.net) c.word.ones c.word.unknown from upto horizon _ c.word.apart order short within small (next_tells level nets from upto horizon c cs tallies amid)
    (amid.left c.net d amid.rises.0 amid.rises.1)

pub next_is : (level : ℕ → ℕ → Level) (nets from upto horizon end : ℕ) (c : Changed) (cs : List Changed) (tallies : List Tally) (d new : Tally) → end ≡ horizon
    → AreCounted level nets from upto horizon (c ∷ cs) tallies
    → (IsTally (level c.net) from end (get_or tallies c.net d)
    → ((tick : ℕ) → from ≤ tick + 1 → tick < upto → level_at_place c.word (tick + 64 - upto) ≡ level c.net tick)
    → IsTally (level c.net) upto end new)
    → IsTally (level c.net) upto horizon new
next_is level nets from upto horizon end c cs tallies d new at amid grown =
    subst (λ (h : ℕ). IsTally (level c.net) upto h new) at
    (grown (subst (λ (h : ℕ). IsTally (level c.net) from h (get_or tallies c.net d)) (sym at) (amid.left c.net d amid.rises.0 amid.rises.1))
    (next_tells level nets from upto horizon c cs tallies amid))

pub goes_on : (level : ℕ → ℕ → Level) (nets from upto horizon : ℕ) (c : Changed) (cs : List Changed) (tallies : List Tally) (new : Tally)
    → from < upto → upto ≤ horizon → AreCounted level nets from upto horizon (c ∷ cs) tallies → IsTally (level c.net) upto horizon new
    → AreCounted level nets from upto horizon cs (set tallies c.net new)
goes_on level nets from upto horizon c cs tallies new order within amid this = record {
  low = suc c.net;
  count = length-set tallies c.net new ∙ amid.count;
  rises = amid.rises.2;
  words = All-tail (TellsNet level from upto) c cs amid.words;
  others = λ net late small none. amid.others net (omega (arith, late, amid.rises.0)) small (among_below net c cs late none);
  done = λ net d below small. done net d small (cases_lt net c.net) below;
  left = λ net d late small. subst (IsTally (level net) from horizon) (sym (after net d late)) (amid.left net d (omega (arith, late, amid.rises.0)) small);
}
  where
    after : (net : ℕ) (d : Tally) → c.net < net → get_or (set tallies c.net new) net d ≡ get_or tallies net d
    after net d late = get_or-set_other tallies c.net net new d (omega (arith, late))

    lower : (net : ℕ) (d : Tally) → net < c.net → get_or (set tallies c.net new) net d ≡ get_or tallies net d
    lower net d early = get_or-set_other tallies c.net net new d (omega (arith, early))

    early : (net : ℕ) (d : Tally) → net < nets → net < c.net → (net < amid.low) ⊎ (amid.low ≤ net) → IsTally (level net) upto horizon (get_or tallies net d)
    early net d small below (inl counted) = amid.done net d counted small
    early net d small below (inr late) =
        kept (level net) from upto horizon _ (omega (arith, order)) within
        (amid.others net late small (not_among net (suc net) nets (c ∷ cs) (omega arith) (below, amid.rises.1, amid.rises.2)))
        (amid.left net d late small)

    done : (net : ℕ) (d : Tally) → net < nets → (net < c.net) ⊎ (c.net ≤ net) → net < suc c.net → IsTally (level net) upto horizon (get_or (set tallies c.net new) net d)
    done net d small (inl below) h =
        subst (IsTally (level net) upto horizon) (sym (lower net d below)) (early net d small below (cases_lt net amid.low))
    done net d small (inr late) h =
        let same : c.net ≡ net = omega (arith, late, h) in
        subst (λ (n : ℕ). IsTally (level n) upto horizon (get_or (set tallies c.net new) n d)) same
        (subst (IsTally (level c.net) upto horizon) (sym (get_or-set_same tallies c.net new d (omega (arith, amid.count, amid.rises.1)))) this)

pub finishes : (level : ℕ → ℕ → Level) (nets from upto horizon : ℕ) (tallies : List Tally) → from < upto → upto ≤ horizon → AreCounted level nets from upto horizon [] tallies
    → AreTallies level nets upto horizon tallies
finishes level nets from upto horizon tallies order within amid = record {
  count = amid.count;
  each = λ net d small. go net d small (cases_lt net amid.low);
}
  where
    go : (net : ℕ) (d : Tally) → net < nets → (net < amid.low) ⊎ (amid.low ≤ net) → IsTally (level net) upto horizon (get_or tallies net d)
    go net d small (inl below) = amid.done net d below small
    go net d small (inr late) = kept (level net) from upto horizon _ (omega (arith, order)) within (amid.others net late small refl) (amid.left net d late small)

-- ---- the ends of a run

-- the tallies of one net more at tick 0
pub one_more : (level : ℕ → ℕ → Level) (net horizon : ℕ) (tallies : List Tally) (new : Tally) → AreTallies level net 1 horizon tallies → IsTally (level net) 1 horizon new
    → AreTallies level (suc net) 1 horizon (tallies ++ new ∷ [])
one_more level net horizon tallies new so_far is = record {
  count = length-append tallies (new ∷ []) ∙ (let e : length tallies + 1 ≡ suc net = omega (arith, so_far.count) in e);
  each = λ n d within. go n d (cases_lt n net) within;
}
  where
    go : (n : ℕ) (d : Tally) → (n < net) ⊎ (net ≤ n) → n < suc net → IsTally (level n) 1 horizon (get_or (tallies ++ new ∷ []) n d)
    go n d (inl below) within =
        subst (IsTally (level n) 1 horizon) (sym (get_or_append_left tallies (new ∷ []) d n (omega (arith, below, so_far.count)))) (so_far.each n d below)
    go n d (inr late) within =
        let same : net ≡ n = omega (arith, late, within) in
        subst (λ (m : ℕ). IsTally (level m) 1 horizon (get_or (tallies ++ new ∷ []) m d)) same
        (subst (IsTally (level net) 1 horizon) (sym (ap (λ (m : ℕ). get_or (tallies ++ new ∷ []) m d) (sym so_far.count) ∙ get_or-append_seam tallies new [] d)) is)

pub no_tallies : (level : ℕ → ℕ → Level) (horizon : ℕ) → AreTallies level 0 1 horizon []
no_tallies level horizon = record { count = refl; each = λ net d within. absurd (omega (arith, within)) }

-- what was counted of one net more
pub one_more_told : (level : ℕ → ℕ → Level) (net upto : ℕ) (all : List Activity) (new : Activity) → AreActivitiesOf level net upto all → IsActivity (level net) upto new
    → AreActivitiesOf level (suc net) upto (all ++ new ∷ [])
one_more_told level net upto all new so_far is = record {
  count = length-append all (new ∷ []) ∙ (let e : length all + 1 ≡ suc net = omega (arith, so_far.count) in e);
  each = λ n d within. go n d (cases_lt n net) within;
}
  where
    go : (n : ℕ) (d : Activity) → (n < net) ⊎ (net ≤ n) → n < suc net → IsActivity (level n) upto (get_or (all ++ new ∷ []) n d)
    go n d (inl below) within =
        subst (IsActivity (level n) upto) (sym (get_or_append_left all (new ∷ []) d n (omega (arith, below, so_far.count)))) (so_far.each n d below)
    go n d (inr late) within =
        let same : net ≡ n = omega (arith, late, within) in
        subst (λ (m : ℕ). IsActivity (level m) upto (get_or (all ++ new ∷ []) m d)) same
        (subst (IsActivity (level net) upto) (sym (ap (λ (m : ℕ). get_or (all ++ new ∷ []) m d) (sym so_far.count) ∙ get_or-append_seam all new [] d)) is)

-- a slice of a whole vector, written back
pub written_back : (old new : List Tally) (len : ℕ) → length new ≡ length old → len ≡ length old → take len (new ++ drop (length new) old) ≡ new
written_back old new len many all =
    ap (λ (rest : List Tally). take len (new ++ rest)) (drop_all (length new) old (omega (arith, many)))
    ∙ ap (take len) (append-nil new) ∙ take_all len new (omega (arith, many, all))
