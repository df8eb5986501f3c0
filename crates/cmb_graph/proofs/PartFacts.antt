-- The last part of the path is done.
use Rattle.std.proofs.Common.{◌≡◌, ◌≢◌, ◌⊎◌, inl, inr, ℕ, ◌+◌, ◌-◌, ◌<◌, ◌≤◌, Bool, true, false, List, [], ◌∷◌, ◌++◌, length, take, drop, get_or, sym, ap, ◌∙◌, subst, arith}
use Rattle.std.specs.Prelude.{All, Contains}
use Rattle.std.proofs.lemmas.Bool.{cases_eq, cases_lt}
use Rattle.std.proofs.lemmas.List.{get_or-drop, get_or-take, get_or_default, length-drop, length-take}
use Rattle.std.proofs.lemmas.List.Elements.{All-contains, All-weaker, Contains-append_left, Contains-get_or, Contains-push, Contains-push_cases}
use Rattle.cmb_graph.specs.Loops.{Reaches, Walk, one, more}
use Rattle.cmb_graph.specs.Inner.Search.{AreSet, IsFollowed, IsLeft, IsLooped, IsOnePart, IsSearch, seen_of}
use Rattle.cmb_graph.specs.declared.search.Frame.{Frame}
use Rattle.cmb_graph.specs.declared.search.Seen.{Seen}
use Rattle.cmb_graph.specs.declared.search.Seen.TheVariants.{New, On, Done}
use Rattle.cmb_graph.proofs.SearchFacts.{all_last, contains_none, frame_before, pairs_front, pairs_last}
use Rattle.cmb_graph.proofs.WalkFacts.{reach_to, walk_stays}

-- where a net of the part stands on the path
pub place_in_part : (path : List ℕ) (place net : ℕ) → Contains (drop place path) net → (p : ℕ) × (place ≤ p) × (p < length path) × (get_or path p 0 ≡ net)
place_in_part path place net there =
    let l : there.0 < length (drop place path) = there.1 in
    let h : place + there.0 < length path = omega (arith, length-drop place path) in
    (place + there.0, omega arith, h, get_or_default path (place + there.0) 0 net h ∙ sym (get_or-drop place path there.0 net) ∙ there.2)

pub closed : (next : ℕ → List ℕ) (seen seen' : List Seen) (marks marks' : List Bool) (path starts : List ℕ) (frames : List Frame) (place k : ℕ)
    → IsSearch next seen marks path (starts ++ place ∷ []) (frames ++ record { place = place; next = k } ∷ [])
    → length (next (get_or path place 0)) ≤ k
    → AreSet Done seen (drop place path) seen' → IsLooped next marks (drop place path) marks'
    → IsSearch next seen' marks' (take place path) starts frames
closed next seen seen' marks marks' path starts frames place k is end shut looped = record {
  long = looped.long ∙ is.long ∙ sym shut.long;
  listed = λ p h. let l : p < place = below p h in rw (front p l) (on-after (get_or path p 0) p (is.listed p (omega (arith, within))) l);
  placed = λ x p e. let was = on-before x p e in (omega (arith, was.1, long), front p was.1 ∙ (is.placed x p was.0).1);
  forth = λ low high le h. let l : high < place = below high h in rw (front low (omega arith), front high l) (is.forth low high le (omega (arith, within)));
  back = λ low high le h part. let l : high < place = below high h in
      rw (front low (omega arith), front high l) (is.back low high le (omega (arith, within)) (λ start there under. by-part low high l part start under (Contains-push_cases starts place start there)));
  closed = λ x target done step. by-closed x target step (done-before x done);
  loops = λ x marked. by-loops x (looped.only x marked);
  all = λ x done walk. by-all x walk (done-before x done);
  steps = λ p target h step. let l : p < place = below p h in by-steps p target l (is.steps p target (omega (arith, within)) (rw (front p l) at step));
  frames_rise = pairs_front (λ (one other : Frame). one.place < other.place) frames (frame ∷ []) is.frames_rise;
  frames_within = All-weaker (λ (f : Frame). f.place < place) (λ (f : Frame). f.place < length (take place path)) (λ f l. omega (arith, long)) frames frames-below;
  starts_rise = pairs_front (λ one other. one < other) starts (place ∷ []) is.starts_rise;
  starts_left = λ start there. by-left start there (is.starts_left start (Contains-append_left starts (place ∷ []) start there));
  first = λ some. by-first some (Contains-push_cases starts place 0 (is.first (omega (arith, within))));
}
  where
    frame : Frame
    frame = record { place = place; next = k }

    within : place < length path
    within = all_last (λ (f : Frame). f.place < length path) frames frame is.frames_within

    long : length (take place path) ≡ place
    long = simp length-take (omega (arith, within))

    below : (p : ℕ) → p < length (take place path) → p < place
    below p h = omega (arith, long)

    front : (p : ℕ) → p < place → get_or (take place path) p 0 ≡ get_or path p 0
    front p l = get_or-take place path p 0 l

    frames-below : All (λ (f : Frame). f.place < place) frames
    frames-below = pairs_last (λ (one other : Frame). one.place < other.place) frames frame is.frames_rise

    starts-below : All (λ start. start < place) starts
    starts-below = pairs_last (λ one other. one < other) starts place is.starts_rise

    by-first : 0 < length (take place path) → Contains starts 0 ⊎ (place ≡ 0) → Contains starts 0
    by-first some (inl there) = there
    by-first some (inr e) = absurd (omega (arith, e, long))

    by-part : (low high : ℕ) → high < place → IsOnePart starts low high → (start : ℕ) → start ≤ high → Contains starts start ⊎ (place ≡ start) → start ≤ low
    by-part low high l part start under (inl there) = part start there under
    by-part low high l part start under (inr e) = absurd (omega arith)

    by-left : (start : ℕ) → Contains starts start → (f : Frame) × Contains (frames ++ frame ∷ []) f × (f.place ≡ start)
        → (f : Frame) × Contains frames f × (f.place ≡ start)
    by-left start here =
        let l : start < place = All-contains (λ start. start < place) starts start starts-below here in
        frame_before frames frame start (λ same. omega (arith, same, l))

    -- the nets of the part are those from the place on
    into : (p : ℕ) → place ≤ p → p < length path → Contains (drop place path) (get_or path p 0)
    into p le h =
        let there : Contains (drop place path) (get_or (drop place path) (p - place) 0) = Contains-get_or (drop place path) (p - place) 0 (omega (arith, length-drop place path)) in
        let e : get_or (drop place path) (p - place) 0 ≡ get_or path p 0 = get_or-drop place path (p - place) 0 ∙ (let same : place + (p - place) ≡ p = omega arith in ap (λ i. get_or path i 0) same) in
        let P : ℕ → Type 0 = λ x. Contains (drop place path) x in
        subst P e there

    out : (x : ℕ) → Contains (drop place path) x → (p : ℕ) × (place ≤ p) × (p < length path) × (get_or path p 0 ≡ x)
    out x there = place_in_part path place x there

    shut-at : (p : ℕ) → place ≤ p → p < length path → seen_of seen' (get_or path p 0) ≡ Done
    shut-at p le h = All-contains (λ x. seen_of seen' x ≡ Done) (drop place path) (get_or path p 0) (shut.all New) (into p le h)

    on-before : (x p : ℕ) → seen_of seen' x ≡ On p → (seen_of seen x ≡ On p) × (p < place)
    on-before x p e = by (shut.others x New)
      where
        by : (Contains (drop place path) x) ⊎ (seen_of seen' x ≡ seen_of seen x) → (seen_of seen x ≡ On p) × (p < place)
        by (inl there) = let done : seen_of seen' x ≡ Done = All-contains (λ x. seen_of seen' x ≡ Done) (drop place path) x (shut.all New) there in absurd cc
        by (inr same) = (sym same ∙ e, low (cases_lt p place))
          where
            low : (p < place) ⊎ (place ≤ p) → p < place
            low (inl l) = l
            low (inr g) =
                let at = is.placed x p (sym same ∙ e) in
                let done : seen_of seen' x ≡ Done = sym (ap (seen_of seen') at.1) ∙ shut-at p g at.0 in
                absurd cc

    done-after : (x : ℕ) → seen_of seen x ≡ Done → seen_of seen' x ≡ Done
    done-after x e = by (shut.others x New)
      where
        by : (Contains (drop place path) x) ⊎ (seen_of seen' x ≡ seen_of seen x) → seen_of seen' x ≡ Done
        by (inl there) = All-contains (λ x. seen_of seen' x ≡ Done) (drop place path) x (shut.all New) there
        by (inr same) = same ∙ e

    on-after : (x p : ℕ) → seen_of seen x ≡ On p → p < place → seen_of seen' x ≡ On p
    on-after x p e l = by (shut.others x New)
      where
        by : (Contains (drop place path) x) ⊎ (seen_of seen' x ≡ seen_of seen x) → seen_of seen' x ≡ On p
        by (inl there) =
            let at = out x there in
            let f : On at.0 ≡ On p = sym (is.listed at.0 at.2) ∙ ap (seen_of seen) at.3 ∙ e in
            let g : at.0 ≡ p = cc in
            absurd (omega (arith, at.1))
        by (inr same) = same ∙ e

    done-before : (x : ℕ) → seen_of seen' x ≡ Done → (seen_of seen x ≡ Done) ⊎ Contains (drop place path) x
    done-before x e = by (shut.others x New)
      where
        by : (Contains (drop place path) x) ⊎ (seen_of seen' x ≡ seen_of seen x) → (seen_of seen x ≡ Done) ⊎ Contains (drop place path) x
        by (inl there) = inr there
        by (inr same) = inl (sym same ∙ e)

    -- no step is left from the nets of the part
    none-left : (p target : ℕ) → place ≤ p → IsLeft (frames ++ record { place = place; next = k } ∷ []) p (next (get_or path p 0)) target → ⊥
    none-left p target le left = by (Contains-push_cases frames frame left.0 left.1)
      where
        by : Contains frames left.0 ⊎ (frame ≡ left.0) → ⊥
        by (inl there) = let l = All-contains (λ (f : Frame). f.place < place) frames left.0 frames-below there in omega (arith, l, left.2)
        by (inr e) =
            let same : place ≡ p = ap (λ (f : Frame). f.place) e ∙ left.2 in
            let later : Contains (drop k (next (get_or path p 0))) target = let P : Frame → Type 0 = λ f. Contains (drop f.next (next (get_or path p 0))) target in subst P (sym e) left.3 in
            let P : ℕ → Type 0 = λ x. Contains (drop k (next (get_or path x 0))) target in
            contains_none k (next (get_or path place 0)) target end (subst P (sym same) later)

    -- steps from the part lead to nets that are done, or into the part
    Ahead : ℕ → Type 0
    Ahead target = (seen_of seen target ≡ Done) ⊎ ((q : ℕ) × (place ≤ q) × (q < length path) × (get_or path q 0 ≡ target))

    ahead : (p target : ℕ) → place ≤ p → p < length path → Contains (next (get_or path p 0)) target → Ahead target
    ahead p target le h step = by (is.steps p target h step)
      where
        by : IsLeft (frames ++ record { place = place; next = k } ∷ []) p (next (get_or path p 0)) target ⊎ IsFollowed seen (starts ++ place ∷ []) p target → Ahead target
        by (inl left) = absurd (none-left p target le left)
        by (inr (inl done)) = inl done
        by (inr (inr on)) = let at = is.placed target on.0 on.1 in inr (on.0, on.2 place (Contains-push starts place) le, at.0, at.1)

    by-closed : (x target : ℕ) → Contains (next x) target → (seen_of seen x ≡ Done) ⊎ Contains (drop place path) x → seen_of seen' target ≡ Done
    by-closed x target step (inl done) = done-after target (is.closed x target done step)
    by-closed x target step (inr there) =
        let at = out x there in
        by (ahead at.0 target at.1 at.2 (let P : ℕ → Type 0 = λ y. Contains (next y) target in subst P (sym at.3) step))
      where
        by : Ahead target → seen_of seen' target ≡ Done
        by (inl done) = done-after target done
        by (inr on) = ap (seen_of seen') (sym on.3) ∙ shut-at on.0 on.1 on.2

    by-steps : (p target : ℕ) → p < place → IsLeft (frames ++ record { place = place; next = k } ∷ []) p (next (get_or path p 0)) target ⊎ IsFollowed seen (starts ++ place ∷ []) p target
        → IsLeft frames p (next (get_or (take place path) p 0)) target ⊎ IsFollowed seen' starts p target
    by-steps p target l (inl left) = by (Contains-push_cases frames frame left.0 left.1)
      where
        by : Contains frames left.0 ⊎ (frame ≡ left.0) → IsLeft frames p (next (get_or (take place path) p 0)) target ⊎ IsFollowed seen' starts p target
        by (inl there) = inl (left.0, there, left.2, rw (front p l) left.3)
        by (inr e) = let same : place ≡ p = ap (λ (f : Frame). f.place) e ∙ left.2 in absurd (omega arith)
    by-steps p target l (inr (inl done)) = inr (inl (done-after target done))
    by-steps p target l (inr (inr on)) = by (cases_lt on.0 place)
      where
        by : (on.0 < place) ⊎ (place ≤ on.0) → IsLeft frames p (next (get_or (take place path) p 0)) target ⊎ IsFollowed seen' starts p target
        by (inl low) = inr (inr (on.0, on-after target on.0 on.1 low, λ start there under. on.2 start (Contains-append_left starts (place ∷ []) start there) under))
        by (inr high) = let at = is.placed target on.0 on.1 in inr (inl (sym (ap (seen_of seen') at.1) ∙ shut-at on.0 high at.0))

    -- nets of one part reach one another
    part : (low high : ℕ) → place ≤ low → IsOnePart (starts ++ place ∷ []) low high
    part low high le start there under = by (Contains-push_cases starts place start there)
      where
        by : Contains starts start ⊎ (place ≡ start) → start ≤ low
        by (inl here) = let l = All-contains (λ start. start < place) starts start starts-below here in omega (arith, l)
        by (inr e) = omega arith

    reach : (p q : ℕ) → place ≤ p → p < length path → place ≤ q → q < length path → Reaches next (get_or path p 0) (get_or path q 0)
    reach p q lp hp lq hq = by (cases_lt p q)
      where
        by : (p < q) ⊎ (q ≤ p) → Reaches next (get_or path p 0) (get_or path q 0)
        by (inl l) = is.forth p q (omega arith) hq
        by (inr g) = is.back q p g hp (part q p lq)

    two : (p q : ℕ) → p ≢ q → place ≤ p → p < length path → place ≤ q → q < length path → Walk next (get_or path p 0) (get_or path p 0)
    two p q ne lp hp lq hq = by (reach p q lp hp lq hq)
      where
        by : (get_or path p 0 ≡ get_or path q 0) ⊎ Walk next (get_or path p 0) (get_or path q 0) → Walk next (get_or path p 0) (get_or path p 0)
        by (inl e) = let f : On p ≡ On q = sym (is.listed p hp) ∙ ap (seen_of seen) e ∙ is.listed q hq in let g : p ≡ q = cc in absurd (ne g)
        by (inr w) = reach_to next (get_or path p 0) (get_or path q 0) (get_or path p 0) w (reach q p lq hq lp hp)

    by-loops : (x : ℕ) → (get_or marks x false ≡ true) ⊎ (Contains (drop place path) x × ((1 < length (drop place path)) ⊎ Contains (next (get_or (drop place path) 0 0)) (get_or (drop place path) 0 0))) → Walk next x x
    by-loops x (inl marked) = is.loops x marked
    by-loops x (inr (there, why)) =
        let at = out x there in
        let P : ℕ → Type 0 = λ y. Walk next y y in
        subst P at.3 (by at.0 at.1 at.2 (cases_eq at.0 place) why)
      where
        by : (p : ℕ) → place ≤ p → p < length path → (p ≡ place) ⊎ (p ≢ place) → (1 < length (drop place path)) ⊎ Contains (next (get_or (drop place path) 0 0)) (get_or (drop place path) 0 0)
            → Walk next (get_or path p 0) (get_or path p 0)
        by p le h (inr ne) why = two p place ne le h (omega arith) within
        by p le h (inl e) (inl many) = two p (place + 1) (λ f. omega arith) le h (omega arith) (omega (arith, length-drop place path))
        by p le h (inl e) (inr self) =
            let at : get_or (drop place path) 0 0 ≡ get_or path p 0 = get_or-drop place path 0 0 ∙ (let same : place + 0 ≡ p = omega arith in ap (λ i. get_or path i 0) same) in
            let P : ℕ → Type 0 = λ y. Contains (next y) y in
            one (subst P at self)

    -- a net alone in its part steps to itself where it is in a loop
    self : (x : ℕ) → length path ≡ place + 1 → get_or path place 0 ≡ x → Walk next x x → Contains (next x) x
    self x alone at (one h) = h
    self x alone at (more {b = b} h w) = by b h w (ahead place b (omega arith) within (let P : ℕ → Type 0 = λ y. Contains (next y) b in subst P (sym at) h))
      where
        by : (b : ℕ) → Contains (next x) b → Walk next b x → Ahead b → Contains (next x) x
        by b h w (inl done) =
            let e : seen_of seen x ≡ Done = walk_stays next (λ y. seen_of seen y ≡ Done) (λ y target d step. is.closed y target d step) b x w done in
            let f : seen_of seen x ≡ On place = ap (seen_of seen) (sym at) ∙ is.listed place within in
            absurd cc
        by b h w (inr on) =
            let same : on.0 ≡ place = omega (arith, on.1, on.2) in
            let e : b ≡ x = sym on.3 ∙ ap (λ i. get_or path i 0) same ∙ at in
            let P : ℕ → Type 0 = λ y. Contains (next x) y in
            subst P e h

    by-all : (x : ℕ) → Walk next x x → (seen_of seen x ≡ Done) ⊎ Contains (drop place path) x → get_or marks' x false ≡ true
    by-all x walk (inl done) = looped.kept x (is.all x done walk)
    by-all x walk (inr there) = by (cases_lt 1 (length (drop place path)))
      where
        by : (1 < length (drop place path)) ⊎ (length (drop place path) ≤ 1) → get_or marks' x false ≡ true
        by (inl many) = All-contains (λ y. get_or marks' y false ≡ true) (drop place path) x (looped.all (inl many)) there
        by (inr few) =
            let at = out x there in
            let alone : length path ≡ place + 1 = omega (arith, length-drop place path, within) in
            let same : at.0 ≡ place = omega (arith, at.1, at.2) in
            let here : get_or path place 0 ≡ x = ap (λ i. get_or path i 0) (sym same) ∙ at.3 in
            let head : get_or (drop place path) 0 0 ≡ x = get_or-drop place path 0 0 ∙ (let zero-more : place + 0 ≡ place = omega arith in ap (λ i. get_or path i 0) zero-more) ∙ here in
            let loop : Contains (next (get_or (drop place path) 0 0)) (get_or (drop place path) 0 0) = let P : ℕ → Type 0 = λ y. Contains (next y) y in subst P (sym head) (self x alone here walk) in
            All-contains (λ y. get_or marks' y false ≡ true) (drop place path) x (looped.all (inr loop)) there
