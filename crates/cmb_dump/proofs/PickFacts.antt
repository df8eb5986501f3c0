-- Changes of chosen nets, picked out of those of all nets, tell the levels of the chosen ones.
use Rattle.std.proofs.Common.{◌≡◌, ◌≢◌, ℕ, suc, ◌+◌, ◌<◌, ◌≤◌, ◌⊎◌, inl, inr, Bool, true, false, cond, nat_lt, List, [], ◌∷◌, ◌++◌, Some, length, get_or, set, drop, drop-cons, add-one, refl, sym, ap, ◌∙◌, arith}
use Rattle.std.specs.Prelude.{All, ◌==◌, ◌||◌}
use Rattle.std.proofs.lemmas.Bool.{cases_eq, cases_lt, le-ltb, lt-ltb, ltb-true, ltb-false}
use Rattle.std.proofs.lemmas.Bool.Decides.{nat_tests}
use Rattle.std.proofs.lemmas.List.{get_or-set_same, get_or-set_other, length-set}
use Rattle.std.proofs.lemmas.List.Elements.{All-cons, All-head, All-nil, All-tail, Contains-get_or}
use Rattle.std.proofs.lemmas.List.Kept.{AllPairs-from_increasing}
use Rattle.cmb_wave.specs.declared.level.Level.{Level}
use Rattle.cmb_design_model.proofs.LevelFacts.{push-rest}
use Rattle.cmb_words.specs.declared.changed.Changed.{Changed}
use Rattle.cmb_words.specs.Changes.{RisesWithin, Tells, TellsNet, is_among}
use Rattle.cmb_words.proofs.TellsFacts.{tells-same}
use Rattle.cmb_dump.specs.Shown.{AreAmong, TellsShown}
use Rattle.cmb_dump.specs.Inner.Picks.{ArePlaces, IsTaken, levels_at, picked_of}

-- ---- places

-- the places below one stand
pub record ArePlacesBelow (count : ℕ) (nets : List ℕ) (end : ℕ) (places : List ℕ) : Type 0 where
  pub long : length places ≡ count
  pub back : (place : ℕ) → place < end → get_or places (get_or nets place 0) 0 ≡ place
  pub there : (net : ℕ) → net < count → get_or places net 0 < length nets → get_or nets (get_or places net 0) 0 ≡ net

pub placed_more : (count : ℕ) (nets places : List ℕ) (i : ℕ) → AreAmong count nets → i < length nets → ArePlacesBelow count nets i places → ArePlacesBelow count nets (i + 1) (set places (get_or nets i 0) i)
placed_more count nets places i among within is = record {
  long = length-set places (get_or nets i 0) i ∙ is.long;
  back = λ k before. back k before (cases_lt k i);
  there = λ net below placed. there net (cases_eq net (get_or nets i 0)) below placed;
}
  where
    here : get_or nets i 0 < length places
    here = let l : get_or nets i 0 < count = among.within i 0 within in let long = is.long in omega arith

    back : (k : ℕ) → k < i + 1 → (k < i) ⊎ (i ≤ k) → get_or (set places (get_or nets i 0) i) (get_or nets k 0) 0 ≡ k
    back k before (inl l) =
        let less : get_or nets k 0 < get_or nets i 0 = AllPairs-from_increasing nets among.rising k i 0 l within in
        let ne : get_or nets k 0 ≢ get_or nets i 0 = omega arith in
        get_or-set_other places (get_or nets i 0) (get_or nets k 0) i 0 ne ∙ is.back k l
    back k before (inr l) =
        let e : k ≡ i = omega arith in
        ap (λ n. get_or (set places (get_or nets i 0) i) (get_or nets n 0) 0) e ∙ get_or-set_same places (get_or nets i 0) i 0 here ∙ sym e

    there : (net : ℕ) → (net ≡ get_or nets i 0) ⊎ (net ≢ get_or nets i 0) → net < count → get_or (set places (get_or nets i 0) i) net 0 < length nets
        → get_or nets (get_or (set places (get_or nets i 0) i) net 0) 0 ≡ net
    there net (inl e) below placed =
        let at : get_or (set places (get_or nets i 0) i) net 0 ≡ i = ap (λ n. get_or (set places (get_or nets i 0) i) n 0) e ∙ get_or-set_same places (get_or nets i 0) i 0 here in
        ap (λ p. get_or nets p 0) at ∙ sym e
    there net (inr ne) below placed =
        let at : get_or (set places (get_or nets i 0) i) net 0 ≡ get_or places net 0 = get_or-set_other places (get_or nets i 0) net i 0 ne in
        let old : get_or places net 0 < length nets = omega arith in
        ap (λ p. get_or nets p 0) at ∙ is.there net below old

-- ---- one change more

picked_in : (places : List ℕ) (count : ℕ) (changed : List Changed) (i : ℕ) (one : Changed) → i < length changed → one ≡ get_or changed i one → get_or places one.net 0 < count
    → picked_of places count (drop i changed) ≡ record { net = get_or places one.net 0; word = one.word } ∷ picked_of places count (drop (i + 1) changed)
unfolding picked_of
picked_in places count changed i one within is placed =
    let test : nat_lt (get_or places one.net 0) count ≡ true = lt-ltb _ _ placed in
    rw (add-one, drop-cons changed i one within, sym is, test) refl

picked_out : (places : List ℕ) (count : ℕ) (changed : List Changed) (i : ℕ) (one : Changed) → i < length changed → one ≡ get_or changed i one → count ≤ get_or places one.net 0
    → picked_of places count (drop i changed) ≡ picked_of places count (drop (i + 1) changed)
unfolding picked_of
picked_out places count changed i one within is past =
    let test : nat_lt (get_or places one.net 0) count ≡ false = le-ltb _ _ past in
    rw (add-one, drop-cons changed i one within, sym is, test) refl

pub picked_one : (places : List ℕ) (count : ℕ) (changed : List Changed) (i : ℕ) (one : Changed) (old new all : List Changed) → i < length changed → one ≡ get_or changed i one → get_or places one.net 0 < count
    → new ≡ old ++ record { net = get_or places one.net 0; word = one.word } ∷ [] → old ++ picked_of places count (drop i changed) ≡ all → new ++ picked_of places count (drop (i + 1) changed) ≡ all
picked_one places count changed i one old new all within is placed e h =
    push-rest old new (record { net = get_or places one.net 0; word = one.word } ∷ []) (picked_of places count (drop (i + 1) changed)) all e
    (ap (λ t. old ++ t) (sym (picked_in places count changed i one within is placed)) ∙ h)

pub picked_other : (places : List ℕ) (count : ℕ) (changed : List Changed) (i : ℕ) (one : Changed) (old new all : List Changed) → i < length changed → one ≡ get_or changed i one → count ≤ get_or places one.net 0
    → new ≡ old → old ++ picked_of places count (drop i changed) ≡ all → new ++ picked_of places count (drop (i + 1) changed) ≡ all
picked_other places count changed i one old new all within is past e h =
    ap (λ t. t ++ picked_of places count (drop (i + 1) changed)) e ∙ ap (λ t. old ++ t) (sym (picked_out places count changed i one within is past)) ∙ h

pub picked_none : (places : List ℕ) (count : ℕ) → picked_of places count [] ≡ []
unfolding picked_of
picked_none places count = refl

-- ---- what is picked tells the levels of the chosen nets

module _ (count : ℕ) (nets places : List ℕ) (among : AreAmong count nets) (are : ArePlaces count nets places) where
  -- a place beyond that of a net below another's is beyond its own
  beyond : (p q : ℕ) → p < length nets → q < length nets → suc (get_or nets q 0) ≤ get_or nets p 0 → suc q ≤ p
  beyond p q pin qin above = by (cases_lt q p)
    where
      by : (q < p) ⊎ (p ≤ q) → suc q ≤ p
      by (inl l) = omega arith
      by (inr l) = again (cases_eq p q)
        where
          again : (p ≡ q) ⊎ (p ≢ q) → suc q ≤ p
          again (inl e) = let same : get_or nets p 0 ≡ get_or nets q 0 = ap (λ k. get_or nets k 0) e in absurd (omega arith)
          again (inr ne) =
              let l2 : p < q = omega arith in
              let less : get_or nets p 0 < get_or nets q 0 = AllPairs-from_increasing nets among.rising p q 0 l2 qin in
              absurd (omega arith)

  pub picked_rises : (low high : ℕ) (changed : List Changed) → RisesWithin low count changed → ((p : ℕ) → p < length nets → low ≤ get_or nets p 0 → high ≤ p)
      → RisesWithin high (length nets) (picked_of places (length nets) changed)
  unfolding picked_of
  picked_rises low high [] rises above = tt
  picked_rises low high (c ∷ cs) rises above =
      by (nat_lt (get_or places c.net 0) (length nets)) refl (picked_rises (suc c.net) (suc (get_or places c.net 0)) cs rises.2) (picked_rises (suc c.net) high cs rises.2)
    where
      low_is : low ≤ c.net
      low_is = rises.0

      by : (b : Bool) → nat_lt (get_or places c.net 0) (length nets) ≡ b
          → (((p : ℕ) → p < length nets → suc c.net ≤ get_or nets p 0 → suc (get_or places c.net 0) ≤ p) → RisesWithin (suc (get_or places c.net 0)) (length nets) (picked_of places (length nets) cs))
          → (((p : ℕ) → p < length nets → suc c.net ≤ get_or nets p 0 → high ≤ p) → RisesWithin high (length nets) (picked_of places (length nets) cs))
          → RisesWithin high (length nets) (cond b (record { net = get_or places c.net 0; word = c.word } ∷ picked_of places (length nets) cs) (picked_of places (length nets) cs))
      by true e one other =
          let placed : get_or places c.net 0 < length nets = ltb-true _ _ e in
          let is : get_or nets (get_or places c.net 0) 0 ≡ c.net = are.there c.net rises.1 placed in
          let high_is : high ≤ get_or places c.net 0 = above (get_or places c.net 0) placed (omega arith) in
          (high_is, placed, one (λ p within more. beyond p (get_or places c.net 0) within placed (omega arith)))
      by false e one other = other (λ p within more. above p within (omega arith))

  pub picked_words : (level : ℕ → ℕ → Level) (from upto low : ℕ) (changed : List Changed) → RisesWithin low count changed → All (TellsNet level from upto) changed
      → All (TellsNet (levels_at level nets) from upto) (picked_of places (length nets) changed)
  unfolding picked_of
  picked_words level from upto low [] rises told = All-nil (TellsNet (levels_at level nets) from upto)
  picked_words level from upto low (c ∷ cs) rises told =
      by (nat_lt (get_or places c.net 0) (length nets)) refl (picked_words level from upto (suc c.net) cs rises.2 (All-tail (TellsNet level from upto) c cs told))
    where
      by : (b : Bool) → nat_lt (get_or places c.net 0) (length nets) ≡ b → All (TellsNet (levels_at level nets) from upto) (picked_of places (length nets) cs)
          → All (TellsNet (levels_at level nets) from upto) (cond b (record { net = get_or places c.net 0; word = c.word } ∷ picked_of places (length nets) cs) (picked_of places (length nets) cs))
      by true e rest =
          let placed : get_or places c.net 0 < length nets = ltb-true _ _ e in
          let is : get_or nets (get_or places c.net 0) 0 ≡ c.net = are.there c.net rises.1 placed in
          All-cons (TellsNet (levels_at level nets) from upto) (record { net = get_or places c.net 0; word = c.word }) (picked_of places (length nets) cs)
          (tells-same level (levels_at level nets) from upto c (record { net = get_or places c.net 0; word = c.word }) refl (λ tick. ap (λ n. level n tick) (sym is)) (All-head (TellsNet level from upto) c cs told)) rest
      by false e rest = rest

  picked_others : (p : ℕ) (changed : List Changed) → p < length nets → is_among p (picked_of places (length nets) changed) ≡ false → is_among (get_or nets p 0) changed ≡ false
  unfolding picked_of
  picked_others p [] within none = refl
  picked_others p (c ∷ cs) within none = by (nat_lt (get_or places c.net 0) (length nets)) refl none (picked_others p cs within)
    where
      back : get_or places (get_or nets p 0) 0 ≡ p
      back = are.back p within

      other : c.net ≢ get_or nets p 0 → is_among (get_or nets p 0) cs ≡ false → is_among (get_or nets p 0) (c ∷ cs) ≡ false
      other ne rest = let apart : (c.net == get_or nets p 0) ≡ false = grind (arith, nat_tests) in rw apart rest

      by : (b : Bool) → nat_lt (get_or places c.net 0) (length nets) ≡ b
          → is_among p (cond b (record { net = get_or places c.net 0; word = c.word } ∷ picked_of places (length nets) cs) (picked_of places (length nets) cs)) ≡ false
          → (is_among p (picked_of places (length nets) cs) ≡ false → is_among (get_or nets p 0) cs ≡ false) → is_among (get_or nets p 0) (c ∷ cs) ≡ false
      by true e h more = again (get_or places c.net 0 == p) refl h
        where
          again : (b : Bool) → (get_or places c.net 0 == p) ≡ b → (b || is_among p (picked_of places (length nets) cs)) ≡ false → is_among (get_or nets p 0) (c ∷ cs) ≡ false
          again true f g = cc g
          again false f g = other (λ same. let placed : get_or places c.net 0 ≡ p = ap (λ n. get_or places n 0) same ∙ back in let t : (get_or places c.net 0 == p) ≡ true = grind (arith, nat_tests) in cc (t, f)) (more g)
      by false e h more =
          let past : length nets ≤ get_or places c.net 0 = ltb-false _ _ e in
          other (λ same. let placed : get_or places c.net 0 ≡ p = ap (λ n. get_or places n 0) same ∙ back in absurd (omega arith)) (more h)

  pub picked_tells : (level : ℕ → ℕ → Level) (from upto : ℕ) (changed : List Changed) → RisesWithin 0 count changed → TellsShown (Some nets) level count from upto changed
      → Tells (levels_at level nets) (length nets) from upto (picked_of places (length nets) changed)
  picked_tells level from upto changed rises told = record {
    words = picked_words level from upto 0 changed rises told.words;
    others = λ p within none. told.others (get_or nets p 0) (among.within p 0 within) (Contains-get_or nets p 0 within) (picked_others p changed within none);
  }

  -- as they are handed on
  pub picked_taken : (read : List ℕ) (n : ℕ) (changed picked : List Changed) → read ≡ places → n ≡ length nets → RisesWithin 0 count changed → picked ≡ picked_of read n changed
      → IsTaken changed (record { count = count; nets = nets; changes = picked })
  picked_taken read n changed picked r m rises p =
      let is : picked ≡ picked_of places (length nets) changed = rw (r, m) at p in
      record {
        window = λ horizon from upto window. record {
          late = window.late;
          order = window.order;
          short = window.short;
          within = window.within;
          nets = rw is (picked_rises 0 0 changed window.nets (λ q w a. omega arith));
        };
        tells = λ level from upto told. rw is (picked_tells level from upto changed rises told);
      }
