-- What the parts of a search keep.
use Rattle.std.proofs.Common.{◌≡◌, ◌≢◌, ◌⊎◌, inl, inr, ℕ, zero, suc, ◌+◌, ◌-◌, ◌<◌, ◌≤◌, Bool, List, [], ◌∷◌, ◌++◌, length, drop, get_or, set, refl, sym, ap, ◌∙◌, subst, arith, add-one, drop-cons}
use Rattle.std.specs.Prelude.{All, AllPairs, Contains}
use Rattle.std.proofs.lemmas.Bool.{cases_eq, cases_lt}
use Rattle.std.proofs.lemmas.List.{get_or_append_left, get_or_push, get_or-set_same, get_or-set_other, get_or_default, length-append, length-drop, length-set, length_push}
use Rattle.std.proofs.lemmas.List.Elements.{All-push, All-weaker, All-contains, Contains-append_left, Contains-get_or, Contains-push, Contains-push_cases, Contains-append_cases}
use Rattle.std.proofs.lemmas.List.Quantifiers.{all_pairs_push}
use Rattle.cmb_graph.specs.Loops.{Reaches}
use Rattle.cmb_graph.specs.Inner.Search.{IsFollowed, IsLeft, IsOnePart, IsSearch, seen_of}
use Rattle.cmb_graph.specs.declared.search.Frame.{Frame}
use Rattle.cmb_graph.specs.declared.search.Seen.{Seen}
use Rattle.cmb_graph.specs.declared.search.Seen.TheVariants.{New, On, Done}
use Rattle.cmb_graph.proofs.WalkFacts.{reach_on}

-- ---- a net that wasn't found goes to the end of the path, as a part of its own

pub entered : (next : ℕ → List ℕ) (seen : List Seen) (marks : List Bool) (path starts : List ℕ) (frames : List Frame) (net : ℕ)
    → IsSearch next seen marks path starts frames → net < length seen → seen_of seen net ≡ New
    → ((place : ℕ) → place < length path → Reaches next (get_or path place 0) net)
    → IsSearch next (set seen net (On (length path))) marks (path ++ net ∷ []) (starts ++ length path ∷ []) (frames ++ record { place = length path; next = 0 } ∷ [])
entered next seen marks path starts frames net is within new reached = record {
  long = is.long ∙ sym (length-set seen net (On n));
  listed = λ place h. by-listed place (places place h);
  placed = by-placed;
  forth = λ low high le h. by-forth low high le (places high h);
  back = λ low high le h part. by-back low high le (places high h) part;
  closed = λ x target done step. done-after target (is.closed x target (done-before x done) step);
  loops = is.loops;
  all = λ x done walk. is.all x (done-before x done) walk;
  steps = λ place target h step. by-steps place target (places place h) step;
  frames_rise = all_pairs_push (λ (one other : Frame). one.place < other.place) frames frame is.frames_rise is.frames_within;
  frames_within = All-push (λ (f : Frame). f.place < length (path ++ net ∷ [])) frames frame
      (All-weaker (λ (f : Frame). f.place < n) (λ (f : Frame). f.place < length (path ++ net ∷ [])) (λ f l. omega (arith, long)) frames is.frames_within) (omega (arith, long));
  starts_rise = all_pairs_push (λ one other. one < other) starts n is.starts_rise (λ k d h. by-start (get_or starts k d) (is.starts_left (get_or starts k d) (Contains-get_or starts k d h)));
  starts_left = λ start there. by-left start (Contains-push_cases starts n start there);
  first = λ some. by-first (cases_lt 0 n);
}
  where
    n : ℕ
    n = length path

    frame : Frame
    frame = record { place = length path; next = 0 }

    long : length (path ++ net ∷ []) ≡ length path + 1
    long = length_push path net

    places : (place : ℕ) → place < length (path ++ net ∷ []) → (place < length path) ⊎ (place ≡ length path)
    places place h = by (cases_lt place (length path))
      where
        by : (place < length path) ⊎ (length path ≤ place) → (place < length path) ⊎ (place ≡ length path)
        by (inl l) = inl l
        by (inr g) = inr (omega (arith, long))

    before : (place : ℕ) → place < length path → get_or (path ++ net ∷ []) place 0 ≡ get_or path place 0
    before place h = get_or_append_left path (net ∷ []) 0 place h

    last : get_or (path ++ net ∷ []) (length path) 0 ≡ net
    last = get_or_push path net 0 (length path) refl

    here : seen_of (set seen net (On (length path))) net ≡ On (length path)
    here = get_or-set_same seen net (On (length path)) New within

    other : (x : ℕ) → x ≢ net → seen_of (set seen net (On (length path))) x ≡ seen_of seen x
    other x ne = get_or-set_other seen net x (On (length path)) New ne

    kept : (x : ℕ) (v : Seen) → v ≢ New → seen_of seen x ≡ v → seen_of (set seen net (On (length path))) x ≡ v
    kept x v old e = by (cases_eq x net)
      where
        by : (x ≡ net) ⊎ (x ≢ net) → seen_of (set seen net (On (length path))) x ≡ v
        by (inl same) = absurd (old (sym e ∙ ap (seen_of seen) same ∙ new))
        by (inr ne) = other x ne ∙ e

    done-after : (x : ℕ) → seen_of seen x ≡ Done → seen_of (set seen net (On (length path))) x ≡ Done
    done-after x e = kept x Done (λ h. cc) e

    on-after : (x p : ℕ) → seen_of seen x ≡ On p → seen_of (set seen net (On (length path))) x ≡ On p
    on-after x p e = kept x (On p) (λ h. cc) e

    done-before : (x : ℕ) → seen_of (set seen net (On (length path))) x ≡ Done → seen_of seen x ≡ Done
    done-before x e = by (cases_eq x net)
      where
        by : (x ≡ net) ⊎ (x ≢ net) → seen_of seen x ≡ Done
        by (inl same) = let f : seen_of (set seen net (On (length path))) x ≡ On (length path) = ap (seen_of (set seen net (On (length path)))) same ∙ here in cc
        by (inr ne) = sym (other x ne) ∙ e

    by-listed : (place : ℕ) → (place < length path) ⊎ (place ≡ length path) → seen_of (set seen net (On (length path))) (get_or (path ++ net ∷ []) place 0) ≡ On place
    by-listed place (inl l) = ap (seen_of (set seen net (On (length path)))) (before place l) ∙ on-after _ place (is.listed place l)
    by-listed place (inr e) = ap (λ p. seen_of (set seen net (On (length path))) (get_or (path ++ net ∷ []) p 0)) e ∙ ap (seen_of (set seen net (On (length path)))) last ∙ here ∙ ap On (sym e)

    by-placed : (x place : ℕ) → seen_of (set seen net (On (length path))) x ≡ On place → (place < length (path ++ net ∷ [])) × (get_or (path ++ net ∷ []) place 0 ≡ x)
    by-placed x place e = by (cases_eq x net)
      where
        by : (x ≡ net) ⊎ (x ≢ net) → (place < length (path ++ net ∷ [])) × (get_or (path ++ net ∷ []) place 0 ≡ x)
        by (inl same) =
            let f : On place ≡ On (length path) = sym e ∙ ap (seen_of (set seen net (On (length path)))) same ∙ here in
            let g : place ≡ length path = cc in
            (omega (arith, long), ap (λ p. get_or (path ++ net ∷ []) p 0) g ∙ last ∙ sym same)
        by (inr ne) =
            let old = is.placed x place (sym (other x ne) ∙ e) in
            (omega (arith, long, old.0), before place old.0 ∙ old.1)

    by-forth : (low high : ℕ) → low ≤ high → (high < length path) ⊎ (high ≡ length path) → Reaches next (get_or (path ++ net ∷ []) low 0) (get_or (path ++ net ∷ []) high 0)
    by-forth low high le (inl l) = rw (before low (omega arith), before high l) (is.forth low high le l)
    by-forth low high le (inr e) = by (cases_lt low (length path))
      where
        by : (low < length path) ⊎ (length path ≤ low) → Reaches next (get_or (path ++ net ∷ []) low 0) (get_or (path ++ net ∷ []) high 0)
        by (inl l) = let h : get_or (path ++ net ∷ []) high 0 ≡ net = ap (λ p. get_or (path ++ net ∷ []) p 0) e ∙ last in rw (before low l, h) (reached low l)
        by (inr g) = let same : low ≡ high = omega arith in inl (ap (λ p. get_or (path ++ net ∷ []) p 0) same)

    by-back : (low high : ℕ) → low ≤ high → (high < length path) ⊎ (high ≡ length path) → IsOnePart (starts ++ length path ∷ []) low high
        → Reaches next (get_or (path ++ net ∷ []) high 0) (get_or (path ++ net ∷ []) low 0)
    by-back low high le (inl l) part =
        rw (before low (omega arith), before high l) (is.back low high le l (λ start there. part start (Contains-append_left starts (length path ∷ []) start there)))
    by-back low high le (inr e) part =
        let far : length path ≤ low = part (length path) (Contains-push starts (length path)) (omega arith) in
        let same : high ≡ low = omega arith in inl (ap (λ p. get_or (path ++ net ∷ []) p 0) same)

    followed : (place target : ℕ) → place < length path → IsFollowed seen starts place target → IsFollowed (set seen net (On (length path))) (starts ++ length path ∷ []) place target
    followed place target l (inl done) = inl (done-after target done)
    followed place target l (inr on) = inr (on.0, on-after target on.0 on.1, λ start there le. by start le (Contains-push_cases starts (length path) start there))
      where
        by : (start : ℕ) → start ≤ place → Contains starts start ⊎ (length path ≡ start) → start ≤ on.0
        by start le (inl there) = on.2 start there le
        by start le (inr e) = absurd (omega arith)

    by-steps : (place target : ℕ) → (place < length path) ⊎ (place ≡ length path) → Contains (next (get_or (path ++ net ∷ []) place 0)) target
        → IsLeft (frames ++ frame ∷ []) place (next (get_or (path ++ net ∷ []) place 0)) target ⊎ IsFollowed (set seen net (On (length path))) (starts ++ length path ∷ []) place target
    by-steps place target (inl l) step = by (is.steps place target l (rw (before place l) at step))
      where
        by : IsLeft frames place (next (get_or path place 0)) target ⊎ IsFollowed seen starts place target
            → IsLeft (frames ++ frame ∷ []) place (next (get_or (path ++ net ∷ []) place 0)) target ⊎ IsFollowed (set seen net (On (length path))) (starts ++ length path ∷ []) place target
        by (inl left) = inl (left.0, Contains-append_left frames (frame ∷ []) left.0 left.1, left.2, rw (before place l) left.3)
        by (inr done) = inr (followed place target l done)
    by-steps place target (inr e) step = inl (frame, Contains-push frames frame, sym e, step)

    by-start : (start : ℕ) → (f : Frame) × Contains frames f × (f.place ≡ start) → start < length path
    by-start start left = let l = All-contains (λ (f : Frame). f.place < length path) frames left.0 is.frames_within left.1 in omega (arith, l, left.2)

    by-left : (start : ℕ) → Contains starts start ⊎ (length path ≡ start) → (f : Frame) × Contains (frames ++ frame ∷ []) f × (f.place ≡ start)
    by-left start (inl there) = let left = is.starts_left start there in (left.0, Contains-append_left frames (frame ∷ []) left.0 left.1, left.2)
    by-left start (inr e) = (frame, Contains-push frames frame, e)

    by-first : (0 < length path) ⊎ (length path ≤ 0) → Contains (starts ++ length path ∷ []) 0
    by-first (inl some) = Contains-append_left starts (length path ∷ []) 0 (is.first some)
    by-first (inr none) = let e : length path ≡ 0 = omega arith in let P : ℕ → Type 0 = λ x. Contains (starts ++ length path ∷ []) x in subst P e (Contains-push starts (length path))

-- ---- lists with a last element

pub pairs_front : {X : Type 0} → (R : X → X → Type 0) (xs ys : List X) → AllPairs R (xs ++ ys) → AllPairs R xs
pairs_front R xs ys all i j d lt h =
    let long = length-append xs ys in
    rw (get_or_append_left xs ys d i (omega arith), get_or_append_left xs ys d j h) at (all i j d lt (omega (arith, long)))

pub pairs_last : {X : Type 0} → (R : X → X → Type 0) (xs : List X) (y : X) → AllPairs R (xs ++ y ∷ []) → All (λ x. R x y) xs
pairs_last R xs y all k d h =
    let long = length_push xs y in
    rw (get_or_append_left xs (y ∷ []) d k h, get_or_push xs y d (length xs) refl) at (all k (length xs) d h (omega (arith, long)))

pub all_front : {X : Type 0} → (P : X → Type 0) (xs ys : List X) → All P (xs ++ ys) → All P xs
all_front P xs ys all k d h = let long = length-append xs ys in rw (get_or_append_left xs ys d k h) at (all k d (omega (arith, long)))

pub all_last : {X : Type 0} → (P : X → Type 0) (xs : List X) (y : X) → All P (xs ++ y ∷ []) → P y
all_last P xs y all = All-contains P (xs ++ y ∷ []) y all (Contains-push xs y)

contains_cons : (x : ℕ) (xs : List ℕ) (y : ℕ) → Contains (x ∷ xs) y → (x ≡ y) ⊎ Contains xs y
contains_cons x xs y (zero, h, e) = inl e
contains_cons x xs y (suc k, h, e) = inr (k, omega arith, e)

pub contains_none : (k : ℕ) (xs : List ℕ) (y : ℕ) → length xs ≤ k → Contains (drop k xs) y → ⊥
contains_none k xs y le there = let h : there.0 < length (drop k xs) = there.1 in omega (arith, length-drop k xs)

-- ---- other frames over the same path

with_frames : (next : ℕ → List ℕ) (seen : List Seen) (marks : List Bool) (path starts : List ℕ) (frames others : List Frame) → IsSearch next seen marks path starts frames
    → ((place target : ℕ) → IsLeft frames place (next (get_or path place 0)) target ⊎ IsFollowed seen starts place target
    → IsLeft others place (next (get_or path place 0)) target ⊎ IsFollowed seen starts place target)
    → AllPairs (λ (one other : Frame). one.place < other.place) others → All (λ (frame : Frame). frame.place < length path) others
    → ((start : ℕ) → Contains starts start → (frame : Frame) × Contains frames frame × (frame.place ≡ start) → (frame : Frame) × Contains others frame × (frame.place ≡ start))
    → IsSearch next seen marks path starts others
with_frames next seen marks path starts frames others is steps rise within left = record {
  long = is.long;
  listed = is.listed;
  placed = is.placed;
  forth = is.forth;
  back = is.back;
  closed = is.closed;
  loops = is.loops;
  all = is.all;
  steps = λ place target l step. steps place target (is.steps place target l step);
  frames_rise = rise;
  frames_within = within;
  starts_rise = is.starts_rise;
  starts_left = λ start there. left start there (is.starts_left start there);
  first = is.first;
}

-- ---- the last frame goes on by a step that was followed

pub advanced : (next : ℕ → List ℕ) (seen : List Seen) (marks : List Bool) (path starts : List ℕ) (frames : List Frame) (place k : ℕ)
    → IsSearch next seen marks path starts (frames ++ record { place = place; next = k } ∷ [])
    → k < length (next (get_or path place 0)) → IsFollowed seen starts place (get_or (next (get_or path place 0)) k 0)
    → IsSearch next seen marks path starts (frames ++ record { place = place; next = k + 1 } ∷ [])
advanced next seen marks path starts frames place k is within followed =
    with_frames next seen marks path starts (frames ++ old ∷ []) (frames ++ new ∷ []) is by-steps
    (all_pairs_push (λ (one other : Frame). one.place < other.place) frames new
    (pairs_front (λ (one other : Frame). one.place < other.place) frames (old ∷ []) is.frames_rise)
    (pairs_last (λ (one other : Frame). one.place < other.place) frames old is.frames_rise))
    (All-push (λ (f : Frame). f.place < length path) frames new
    (all_front (λ (f : Frame). f.place < length path) frames (old ∷ []) is.frames_within)
    (all_last (λ (f : Frame). f.place < length path) frames old is.frames_within))
    (λ start there left. by-left start left)
  where
    old : Frame
    old = record { place = place; next = k }

    new : Frame
    new = record { place = place; next = k + 1 }

    by-left : (start : ℕ) → (f : Frame) × Contains (frames ++ record { place = place; next = k } ∷ []) f × (f.place ≡ start)
        → (f : Frame) × Contains (frames ++ record { place = place; next = k + 1 } ∷ []) f × (f.place ≡ start)
    by-left start left = by (Contains-push_cases frames old left.0 left.1)
      where
        by : Contains frames left.0 ⊎ (old ≡ left.0) → (f : Frame) × Contains (frames ++ record { place = place; next = k + 1 } ∷ []) f × (f.place ≡ start)
        by (inl there) = (left.0, Contains-append_left frames (new ∷ []) left.0 there, left.2)
        by (inr e) = (new, Contains-push frames new, ap (λ (f : Frame). f.place) e ∙ left.2)

    by-steps : (p target : ℕ) → IsLeft (frames ++ record { place = place; next = k } ∷ []) p (next (get_or path p 0)) target ⊎ IsFollowed seen starts p target
        → IsLeft (frames ++ record { place = place; next = k + 1 } ∷ []) p (next (get_or path p 0)) target ⊎ IsFollowed seen starts p target
    by-steps p target (inr done) = inr done
    by-steps p target (inl left) = by (Contains-push_cases frames old left.0 left.1)
      where
        at-place : Contains (drop k (next (get_or path place 0))) target
            → IsLeft (frames ++ record { place = place; next = k + 1 } ∷ []) place (next (get_or path place 0)) target ⊎ IsFollowed seen starts place target
        at-place there = by-cons (contains_cons (get_or (next (get_or path place 0)) k 0) (drop (k + 1) (next (get_or path place 0))) target
            (let e : drop k (next (get_or path place 0)) ≡ get_or (next (get_or path place 0)) k 0 ∷ drop (k + 1) (next (get_or path place 0)) = rw add-one (drop-cons (next (get_or path place 0)) k 0 within) in
            let P : List ℕ → Type 0 = λ xs. Contains xs target in subst P e there))
          where
            by-cons : (get_or (next (get_or path place 0)) k 0 ≡ target) ⊎ Contains (drop (k + 1) (next (get_or path place 0))) target
                → IsLeft (frames ++ record { place = place; next = k + 1 } ∷ []) place (next (get_or path place 0)) target ⊎ IsFollowed seen starts place target
            by-cons (inl e) = inr (let P : ℕ → Type 0 = λ x. IsFollowed seen starts place x in subst P e followed)
            by-cons (inr later) = inl (new, Contains-push frames new, refl, later)

        by : Contains frames left.0 ⊎ (old ≡ left.0) → IsLeft (frames ++ record { place = place; next = k + 1 } ∷ []) p (next (get_or path p 0)) target ⊎ IsFollowed seen starts p target
        by (inl there) = inl (left.0, Contains-append_left frames (new ∷ []) left.0 there, left.2, left.3)
        by (inr e) =
            let same : place ≡ p = ap (λ (f : Frame). f.place) e ∙ left.2 in
            let later : Contains (drop k (next (get_or path p 0))) target = let P : Frame → Type 0 = λ f. Contains (drop f.next (next (get_or path p 0))) target in subst P (sym e) left.3 in
            let P : ℕ → Type 0 = λ x. Contains (drop k (next (get_or path x 0))) target
            → IsLeft (frames ++ record { place = place; next = k + 1 } ∷ []) x (next (get_or path x 0)) target ⊎ IsFollowed seen starts x target in
            subst P same at-place later

-- ---- parts become one

-- no part begins behind the last frame
pub starts_low : (next : ℕ → List ℕ) (seen : List Seen) (marks : List Bool) (path starts : List ℕ) (frames : List Frame) (place k : ℕ)
    → IsSearch next seen marks path starts (frames ++ record { place = place; next = k } ∷ []) → (start : ℕ) → Contains starts start → start ≤ place
starts_low next seen marks path starts frames place k is start there = by (is.starts_left start there)
  where
    frame : Frame
    frame = record { place = place; next = k }

    by : (f : Frame) × Contains (frames ++ record { place = place; next = k } ∷ []) f × (f.place ≡ start) → start ≤ place
    by left = by-frame (Contains-push_cases frames frame left.0 left.1)
      where
        by-frame : Contains frames left.0 ⊎ (frame ≡ left.0) → start ≤ place
        by-frame (inl there) =
            let l = All-contains (λ (f : Frame). f.place < place) frames left.0 (pairs_last (λ (one other : Frame). one.place < other.place) frames frame is.frames_rise) there in omega (arith, l, left.2)
        by-frame (inr e) = let same : place ≡ start = ap (λ (f : Frame). f.place) e ∙ left.2 in omega arith

-- none begins at its place, where the last one doesn't
pub starts_before : (next : ℕ → List ℕ) (seen : List Seen) (marks : List Bool) (path starts : List ℕ) (frames : List Frame) (place k : ℕ)
    → IsSearch next seen marks path starts (frames ++ record { place = place; next = k } ∷ []) → (0 < length starts → get_or starts (length starts - 1) 0 ≢ place) → Contains starts place → ⊥
starts_before next seen marks path starts frames place k is last there = by (cases_lt there.0 (length starts - 1))
  where
    within : there.0 < length starts
    within = there.1

    here : get_or starts there.0 0 ≡ place
    here = get_or_default starts there.0 0 place within ∙ there.2

    by : (there.0 < length starts - 1) ⊎ (length starts - 1 ≤ there.0) → ⊥
    by (inl l) =
        let rise = is.starts_rise there.0 (length starts - 1) 0 l (omega arith) in
        let low = starts_low next seen marks path starts frames place k is (get_or starts (length starts - 1) 0) (Contains-get_or starts (length starts - 1) 0 (omega arith)) in
        omega (arith, rise, low, here)
    by (inr g) = let e : there.0 ≡ length starts - 1 = omega arith in last (omega arith) (ap (λ i. get_or starts i 0) (sym e) ∙ here)

-- the path's last net reaches the one of the last frame
pub last_reaches : (next : ℕ → List ℕ) (seen : List Seen) (marks : List Bool) (path starts : List ℕ) (frames : List Frame) (place k last : ℕ)
    → IsSearch next seen marks path starts (frames ++ record { place = place; next = k } ∷ []) → last + 1 ≡ length path
    → Reaches next (get_or path last 0) (get_or path place 0)
last_reaches next seen marks path starts frames place k last is end =
    let l = all_last (λ (f : Frame). f.place < length path) frames (record { place = place; next = k }) is.frames_within in
    is.back place last (omega (arith, l)) (omega arith) (λ start there le. starts_low next seen marks path starts frames place k is start there)

pub merged : (next : ℕ → List ℕ) (seen : List Seen) (marks : List Bool) (path kept gone : List ℕ) (frames : List Frame) (at : ℕ)
    → IsSearch next seen marks path (kept ++ gone) frames → All (λ start. at < start) gone
    → ((last : ℕ) → last + 1 ≡ length path → Reaches next (get_or path last 0) (get_or path at 0))
    → IsSearch next seen marks path kept frames
merged next seen marks path kept gone frames at is above reaches = record {
  long = is.long;
  listed = is.listed;
  placed = is.placed;
  forth = is.forth;
  back = λ low high le h part. by-back low high le h part (cases_lt high at);
  closed = is.closed;
  loops = is.loops;
  all = is.all;
  steps = λ place target l step. by-steps place target (is.steps place target l step);
  frames_rise = is.frames_rise;
  frames_within = is.frames_within;
  starts_rise = pairs_front (λ one other. one < other) kept gone is.starts_rise;
  starts_left = λ start there. is.starts_left start (Contains-append_left kept gone start there);
  first = λ some. by-first (Contains-append_cases kept gone 0 (is.first some));
}
  where
    by-first : Contains kept 0 ⊎ Contains gone 0 → Contains kept 0
    by-first (inl there) = there
    by-first (inr there) = let l = All-contains (λ start. at < start) gone 0 above there in absurd (omega (arith, l))

    -- no part that went begins at or before that place
    whole : (low high : ℕ) → high ≤ at → IsOnePart kept low high → IsOnePart (kept ++ gone) low high
    whole low high le part start there under = by (Contains-append_cases kept gone start there)
      where
        by : Contains kept start ⊎ Contains gone start → start ≤ low
        by (inl here) = part start here under
        by (inr here) = let l = All-contains (λ start. at < start) gone start above here in absurd (omega (arith, l))

    by-back : (low high : ℕ) → low ≤ high → high < length path → IsOnePart kept low high → (high < at) ⊎ (at ≤ high) → Reaches next (get_or path high 0) (get_or path low 0)
    by-back low high le h part (inl l) = is.back low high le h (whole low high (omega arith) part)
    by-back low high le h part (inr g) =
        let end : length path - 1 + 1 ≡ length path = omega arith in
        let far : Reaches next (get_or path high 0) (get_or path at 0) =
        reach_on next (get_or path high 0) (get_or path (length path - 1) 0) (get_or path at 0) (is.forth high (length path - 1) (omega arith) (omega arith)) (reaches (length path - 1) end) in
        reach_on next (get_or path high 0) (get_or path at 0) (get_or path low 0) far (near (cases_lt low at))
      where
        near : (low < at) ⊎ (at ≤ low) → Reaches next (get_or path at 0) (get_or path low 0)
        near (inl l) = is.back low at (omega arith) (omega arith) (whole low at (omega arith) (λ start there under. part start there (omega arith)))
        near (inr l) = is.forth at low l (omega arith)

    by-steps : (place target : ℕ) → IsLeft frames place (next (get_or path place 0)) target ⊎ IsFollowed seen (kept ++ gone) place target
        → IsLeft frames place (next (get_or path place 0)) target ⊎ IsFollowed seen kept place target
    by-steps place target (inl left) = inl left
    by-steps place target (inr (inl done)) = inr (inl done)
    by-steps place target (inr (inr on)) = inr (inr (on.0, on.1, λ start there under. on.2 start (Contains-append_left kept gone start there) under))

-- ---- the last frame goes, where no part begins at its place

-- a frame of a place that isn't the last one's is among the others
pub frame_before : (frames : List Frame) (last : Frame) (place : ℕ) → (last.place ≡ place → ⊥)
    → (f : Frame) × Contains (frames ++ last ∷ []) f × (f.place ≡ place) → (f : Frame) × Contains frames f × (f.place ≡ place)
frame_before frames last place other found = by (Contains-push_cases frames last found.0 found.1)
  where
    by : Contains frames found.0 ⊎ (last ≡ found.0) → (f : Frame) × Contains frames f × (f.place ≡ place)
    by (inl there) = (found.0, there, found.2)
    by (inr e) = absurd (other (ap (λ (f : Frame). f.place) e ∙ found.2))

pub dropped : (next : ℕ → List ℕ) (seen : List Seen) (marks : List Bool) (path starts : List ℕ) (frames : List Frame) (place k : ℕ)
    → IsSearch next seen marks path starts (frames ++ record { place = place; next = k } ∷ [])
    → length (next (get_or path place 0)) ≤ k → (Contains starts place → ⊥)
    → IsSearch next seen marks path starts frames
dropped next seen marks path starts frames place k is end none =
    with_frames next seen marks path starts (frames ++ frame ∷ []) frames is by-steps
    (pairs_front (λ (one other : Frame). one.place < other.place) frames (frame ∷ []) is.frames_rise)
    (all_front (λ (f : Frame). f.place < length path) frames (frame ∷ []) is.frames_within)
    by-left
  where
    frame : Frame
    frame = record { place = place; next = k }

    by-left : (start : ℕ) → Contains starts start → (f : Frame) × Contains (frames ++ frame ∷ []) f × (f.place ≡ start)
        → (f : Frame) × Contains frames f × (f.place ≡ start)
    by-left start here = let P : ℕ → Type 0 = λ x. Contains starts x in frame_before frames frame start (λ same. none (subst P (sym same) here))

    by-steps : (p target : ℕ) → IsLeft (frames ++ record { place = place; next = k } ∷ []) p (next (get_or path p 0)) target ⊎ IsFollowed seen starts p target
        → IsLeft frames p (next (get_or path p 0)) target ⊎ IsFollowed seen starts p target
    by-steps p target (inr done) = inr done
    by-steps p target (inl left) = by (Contains-push_cases frames frame left.0 left.1)
      where
        by : Contains frames left.0 ⊎ (frame ≡ left.0) → IsLeft frames p (next (get_or path p 0)) target ⊎ IsFollowed seen starts p target
        by (inl there) = inl (left.0, there, left.2, left.3)
        by (inr e) =
            let same : place ≡ p = ap (λ (f : Frame). f.place) e ∙ left.2 in
            let later : Contains (drop k (next (get_or path p 0))) target = let P : Frame → Type 0 = λ f. Contains (drop f.next (next (get_or path p 0))) target in subst P (sym e) left.3 in
            let P : ℕ → Type 0 = λ x. Contains (drop k (next (get_or path x 0))) target in
            absurd (contains_none k (next (get_or path place 0)) target end (subst P (sym same) later))
