-- Which lines follow each net, line by line.
use Rattle.std.proofs.Common.{◌≡◌, ◌≢◌, ℕ, zero, suc, ◌+◌, ◌<◌, ◌≤◌, ◌⊎◌, inl, inr, List, [], ◌∷◌, ◌++◌, length, get_or, set, take, refl, sym, ap, subst, ◌∙◌, arith}
use Rattle.std.specs.Prelude.{Some, Contains, replicate, slice_get}
use Rattle.std.proofs.lemmas.Bool.{cases_eq, cases_lt}
use Rattle.std.proofs.lemmas.List.{get_or-set_same, get_or-set_other, get_or-take, length-replicate, length-set, length-take}
use Rattle.std.proofs.lemmas.List.Elements.{Contains-append_left, Contains-push, Contains-push_cases}
use Rattle.std.proofs.lemmas.Option.{slice_get-get_or, slice_get_within, get_or_from_slice_get}
use Rattle.cmb_engine.specs.Inner.Lines.{AreFollowers, Follows}
use Rattle.cmb_engine.specs.declared.cell.Pin.{Pin}

-- an element of a list's begin
get-taken : {X : Type 0} (xs : List X) (n k : ℕ) (x : X) → slice_get (take n xs) k ≡ Some x → (k < n) × (slice_get xs k ≡ Some x)
get-taken xs n k x h =
    let small : k < length (take n xs) = slice_get_within (take n xs) k x h in
    let below : k < n = omega (arith, small, length-take n xs) in
    let inside : k < length xs = omega (arith, small, length-take n xs) in
    (below, slice_get-get_or xs k x inside ∙ ap Some (sym (get_or-take n xs k x below) ∙ get_or_from_slice_get (take n xs) k x x h))

taken-get : {X : Type 0} (xs : List X) (n k : ℕ) (x : X) → k < n → slice_get xs k ≡ Some x → slice_get (take n xs) k ≡ Some x
taken-get xs n k x below h =
    let inside : k < length xs = slice_get_within xs k x h in
    let small : k < length (take n xs) = omega (arith, inside, below, length-take n xs) in
    slice_get-get_or (take n xs) k x small ∙ ap Some (get_or-take n xs k x below ∙ get_or_from_slice_get xs k x x h)

-- one line more
module _ (lines : List Pin) (i : ℕ) (d : Pin) (inside : i < length lines) where
  follows-before : (number net : ℕ) → Follows (take i lines) number net → Follows (take (i + 1) lines) number net
  follows-before number net h =
      let parts = get-taken lines i number h.0 h.1 in
      (h.0, taken-get lines (i + 1) number h.0 (omega (arith, parts.0)) parts.1, h.2)

  follows-last : Follows (take (i + 1) lines) i (get_or lines i d).net
  follows-last = (get_or lines i d, taken-get lines (i + 1) i (get_or lines i d) (omega arith) (slice_get-get_or lines i d inside), refl)

  follows-cases : (number net : ℕ) → Follows (take (i + 1) lines) number net → Follows (take i lines) number net ⊎ ((number ≡ i) × ((get_or lines i d).net ≡ net))
  follows-cases number net h = go (cases_lt number i)
    where
      parts : (number < i + 1) × (slice_get lines number ≡ Some h.0)
      parts = get-taken lines (i + 1) number h.0 h.1

      go : (number < i) ⊎ (i ≤ number) → Follows (take i lines) number net ⊎ ((number ≡ i) × ((get_or lines i d).net ≡ net))
      go (inl l) = inl (h.0, taken-get lines i number h.0 l parts.1, h.2)
      go (inr l) =
          let e : number ≡ i = omega (arith, l, parts.0) in
          let line : get_or lines i d ≡ h.0 = get_or_from_slice_get lines i h.0 d (subst (λ (n : ℕ). slice_get lines n ≡ Some h.0) e parts.1) in
          inr (e, ap (λ (p : Pin). p.net) line ∙ h.2)

  pub followers-more : (nets : ℕ) (old new : List (List ℕ)) → (get_or lines i d).net < length old
      → new ≡ set old (get_or lines i d).net (get_or old (get_or lines i d).net [] ++ i ∷ []) → AreFollowers (take i lines) nets old → AreFollowers (take (i + 1) lines) nets new
  followers-more nets old new small is h = record {
    count = ap length is ∙ length-set old (get_or lines i d).net (get_or old (get_or lines i d).net [] ++ i ∷ []) ∙ h.count;
    exact = λ net number. (λ among. there net number (cases_eq net place) among, λ follows. back net number (cases_eq net place) (follows-cases number net follows));
  }
    where
      place : ℕ
      place = (get_or lines i d).net

      here : get_or new place [] ≡ get_or old place [] ++ i ∷ []
      here = ap (λ ls. get_or ls place []) is ∙ get_or-set_same old place _ [] small

      elsewhere : (net : ℕ) → net ≢ place → get_or new net [] ≡ get_or old net []
      elsewhere net other = ap (λ ls. get_or ls net []) is ∙ get_or-set_other old place net _ [] other

      pushed : (number : ℕ) → Contains (get_or old place []) number ⊎ (i ≡ number) → Follows (take (i + 1) lines) number place
      pushed number (inl a) = follows-before number place ((h.exact place number).0 a)
      pushed number (inr e) = subst (λ (n : ℕ). Follows (take (i + 1) lines) n place) e follows-last

      there : (net number : ℕ) → (net ≡ place) ⊎ (net ≡ place → ⊥) → Contains (get_or new net []) number → Follows (take (i + 1) lines) number net
      there net number (inl e) among =
          subst (λ (n : ℕ). Follows (take (i + 1) lines) number n) (sym e)
          (pushed number (Contains-push_cases (get_or old place []) i number
          (subst (λ (xs : List ℕ). Contains xs number) here (subst (λ (n : ℕ). Contains (get_or new n []) number) e among))))
      there net number (inr other) among =
          follows-before number net ((h.exact net number).0 (subst (λ (xs : List ℕ). Contains xs number) (elsewhere net other) among))

      kept : (net number : ℕ) → (net ≡ place) ⊎ (net ≡ place → ⊥) → Contains (get_or old net []) number → Contains (get_or new net []) number
      kept net number (inl e) a =
          subst (λ (n : ℕ). Contains (get_or new n []) number) (sym e)
          (subst (λ (xs : List ℕ). Contains xs number) (sym here)
          (Contains-append_left (get_or old place []) (i ∷ []) number (subst (λ (n : ℕ). Contains (get_or old n []) number) e a)))
      kept net number (inr other) a = subst (λ (xs : List ℕ). Contains xs number) (sym (elsewhere net other)) a

      back : (net number : ℕ) → (net ≡ place) ⊎ (net ≡ place → ⊥) → Follows (take i lines) number net ⊎ ((number ≡ i) × (place ≡ net)) → Contains (get_or new net []) number
      back net number either (inl follows) = kept net number either ((h.exact net number).1 follows)
      back net number either (inr last) =
          subst (λ (n : ℕ). Contains (get_or new n []) number) last.1
          (subst (λ (xs : List ℕ). Contains xs number) (sym here)
          (subst (λ (n : ℕ). Contains (get_or old place [] ++ i ∷ []) n) (sym last.0) (Contains-push (get_or old place []) i)))

-- no line
none-among : (count net number : ℕ) → Contains (get_or (replicate count []) net []) number → ⊥
none-among zero net number h = absurd (omega (arith, h.1))
none-among (suc count) zero number h = absurd (omega (arith, h.1))
none-among (suc count) (suc net) number h = none-among count net number h

none-follows : (number net : ℕ) → Follows [] number net → ⊥
none-follows number net h = absurd (omega (arith, slice_get_within [] number h.0 h.1))

pub followers-none : (nets : ℕ) (lists : List (List ℕ)) → lists ≡ replicate nets [] → AreFollowers [] nets lists
followers-none nets lists is =
    subst (λ (ls : List (List ℕ)). AreFollowers [] nets ls) (sym is) (record {
      count = length-replicate nets [];
      exact = λ net number. (λ among. absurd (none-among nets net number among), λ follows. absurd (none-follows number net follows));
    })
