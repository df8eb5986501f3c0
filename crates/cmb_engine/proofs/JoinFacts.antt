-- Lists kept one behind the other.
use Rattle.std.proofs.Common.{◌≡◌, ℕ, zero, suc, ◌+◌, ◌-◌, ◌<◌, ◌≤◌, List, [], ◌∷◌, ◌++◌, length, take, drop, get_or, refl, ap, ap₂, subst, ◌∙◌, add-one, arith}
use Rattle.std.specs.Prelude.{replicate}
use Rattle.std.proofs.lemmas.List.{length-append}
use Rattle.cmb_engine.specs.Inner.Lists.{lists_between, lists_from, AreStarts, RiseTo}

-- what stands behind a list
pub still : {A : Type 0} (xs ys : List A) (first count : ℕ) → first + count ≤ length xs → take count (drop first (xs ++ ys)) ≡ take count (drop first xs)
still [] ys zero zero h = refl
still [] ys zero (suc count) h = absurd (omega arith)
still [] ys (suc first) count h = absurd (omega arith)
still (x ∷ xs) ys zero zero h = refl
still (x ∷ xs) ys zero (suc count) h = ap (λ l. x ∷ l) (still xs ys zero count (omega arith))
still (x ∷ xs) ys (suc first) count h = still xs ys first count (omega arith)

pub behind : {A : Type 0} (xs ys : List A) → take (length ys) (drop (length xs) (xs ++ ys)) ≡ ys
behind [] [] = refl
behind [] (y ∷ ys) = ap (λ l. y ∷ l) (behind [] ys)
behind (x ∷ xs) ys = behind xs ys

rise-below : (last start : ℕ) (ends : List ℕ) → RiseTo last start ends → start ≤ last
rise-below last start [] h = omega (arith, h)
rise-below last start (end ∷ ends) h = omega (arith, h.0, rise-below last end ends h.1)

-- ---- one more list

lists_from-append : (xs ys : List ℕ) (start : ℕ) (ends : List ℕ) (last : ℕ) → RiseTo (length xs) start ends → last ≡ length (xs ++ ys)
    → lists_from (xs ++ ys) start (ends ++ last ∷ []) ≡ lists_from xs start ends ++ ys ∷ []
lists_from-append xs ys start [] last h is =
    let count : last - start ≡ length ys = omega (arith, h, is, length-append xs ys) in
    rw (count, h) (ap (λ l. l ∷ []) (behind xs ys))
lists_from-append xs ys start (end ∷ ends) last h is =
    ap₂ (λ l ls. l ∷ ls) (still xs ys start (end - start) (omega (arith, h.0, rise-below (length xs) end ends h.1))) (lists_from-append xs ys end ends last h.1 is)

rise-append : (last start : ℕ) (ends : List ℕ) (more : ℕ) → RiseTo last start ends → last ≤ more → RiseTo more start (ends ++ more ∷ [])
rise-append last start [] more h le = (omega (arith, h, le), refl)
rise-append last start (end ∷ ends) more h le = (h.0, rise-append last end ends more h.1 le)

pub lists_between-append : (xs ys starts : List ℕ) (last : ℕ) → AreStarts (length xs) starts → last ≡ length (xs ++ ys)
    → lists_between (xs ++ ys) (starts ++ last ∷ []) ≡ lists_between xs starts ++ ys ∷ []
lists_between-append xs ys [] last h is = absurd h
lists_between-append xs ys (start ∷ ends) last h is = lists_from-append xs ys start ends last h is

pub starts-append : (xs ys starts : List ℕ) (last : ℕ) → AreStarts (length xs) starts → last ≡ length (xs ++ ys) → AreStarts (length (xs ++ ys)) (starts ++ last ∷ [])
starts-append xs ys [] last h is = absurd h
starts-append xs ys (start ∷ ends) last h is =
    subst (λ (n : ℕ). RiseTo n start (ends ++ last ∷ [])) is (rise-append (length xs) start ends last h (omega (arith, is, length-append xs ys)))

-- ---- reading

length-lists_from : (items : List ℕ) (start : ℕ) (ends : List ℕ) → length (lists_from items start ends) ≡ length ends
length-lists_from items start [] = refl
length-lists_from items start (end ∷ ends) = ap suc (length-lists_from items end ends)

pub length-starts : (items starts : List ℕ) (last : ℕ) → AreStarts last starts → length starts ≡ length (lists_between items starts) + 1
length-starts items [] last h = absurd h
length-starts items (start ∷ ends) last h = omega (arith, length-lists_from items start ends)

-- behind the place of each list there is another one
pub room : (items starts : List ℕ) (last : ℕ) (lists : List (List ℕ)) (slot : ℕ) → AreStarts last starts → lists_between items starts ≡ lists → slot < length lists → slot + 1 < length starts
room items starts last lists slot h is inside = omega (arith, length-starts items starts last h, ap length is, inside)

-- a list begins and ends at neighbouring places
pub record IsSublist (items lists : List ℕ) (begin end : ℕ) : Type 0 where
  pub rise : begin ≤ end
  pub within : end ≤ length items
  pub list : lists ≡ take (end - begin) (drop begin items)

part_from : (items : List ℕ) (start : ℕ) (ends : List ℕ) (slot begin end : ℕ) → RiseTo (length items) start ends → slot < length ends
    → begin ≡ get_or (start ∷ ends) slot begin → end ≡ get_or ends slot end → IsSublist items (get_or (lists_from items start ends) slot []) begin end
part_from items start [] slot begin end h inside is ends_at = absurd (omega arith)
part_from items start (e ∷ ends) zero begin end h inside is ends_at =
    record { rise = omega (arith, h.0, is, ends_at); within = omega (arith, ends_at, rise-below (length items) e ends h.1); list = rw (is, ends_at) refl }
part_from items start (e ∷ ends) (suc slot) begin end h inside is ends_at = part_from items e ends slot begin end h.1 (omega arith) is ends_at

part_between : (items starts : List ℕ) (slot begin end : ℕ) → AreStarts (length items) starts → suc slot < length starts
    → begin ≡ get_or starts slot begin → end ≡ get_or starts (suc slot) end → IsSublist items (get_or (lists_between items starts) slot []) begin end
part_between items [] slot begin end h inside is ends_at = absurd h
part_between items (start ∷ ends) slot begin end h inside is ends_at = part_from items start ends slot begin end h (omega arith) is ends_at

-- the list of a slot whose begin and end were read
pub read-list : (items starts : List ℕ) (lists : List (List ℕ)) (slot begin end : ℕ) → AreStarts (length items) starts → lists_between items starts ≡ lists → slot < length lists
    → begin ≡ get_or starts slot begin → end ≡ get_or starts (slot + 1) end → IsSublist items (get_or lists slot []) begin end
read-list items starts lists slot begin end h is inside begins ends =
    subst (λ (ls : List (List ℕ)). IsSublist items (get_or ls slot []) begin end) is
    (part_between items starts slot begin end h (omega (arith, room items starts (length items) lists slot h is inside)) begins
    (ends ∙ ap (λ n. get_or starts n end) (add-one slot)))

-- ---- lists of nothing

none-from : (start count : ℕ) → lists_from [] start (replicate count start) ≡ replicate count []
none-from start zero = refl
none-from start (suc count) = ap₂ (λ l ls. l ∷ ls) (let e : start - start ≡ 0 = omega arith in rw e refl) (none-from start count)

rise-none : (count : ℕ) → RiseTo 0 0 (replicate count 0)
rise-none zero = refl
rise-none (suc count) = (omega arith, rise-none count)

pub none-between : (count starts : ℕ) → starts ≡ count + 1 → lists_between [] (replicate starts 0) ≡ replicate count []
none-between count zero is = absurd (omega (arith, is))
none-between count (suc starts) is = let e : starts ≡ count = omega (arith, is) in rw e (none-from 0 count)

pub starts-none : (starts : ℕ) → 1 ≤ starts → AreStarts 0 (replicate starts 0)
starts-none zero some = absurd (omega arith)
starts-none (suc starts) some = rise-none starts
