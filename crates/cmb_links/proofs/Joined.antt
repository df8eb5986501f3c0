-- Where a seat's views stand among those of all seats.
use Rattle.std.proofs.Common.{◌≡◌, ℕ, zero, suc, ◌+◌, ◌≤◌, List, [], ◌∷◌, ◌++◌, length, set, sym, refl, ap, ◌∙◌, arith, append_assoc, append-nil, length-append}
use mathlib.Core.Option.{some, some-injective, some-ne-none}
use lib.ListN.{get_elem?}
use Rattle.cmb_links.specs.Inner.BoardSteps.{joined}
use Rattle.cmb_links.specs.declared.view.View.{View}

-- the k-th place behind some views
abbrev behind : List View → ℕ → ℕ
behind [] k = k
behind (a ∷ x) k = suc (behind x k)

behind-is : (x : List View) (k : ℕ) → behind x k ≡ length x + k
behind-is [] k = omega arith
behind-is (a ∷ x) k = let h = behind-is x k in omega arith

-- where the first view of a seat stands
abbrev pub place_of : List (List View) → ℕ → ℕ
place_of [] i = 0
place_of (x ∷ xs) zero = 0
place_of (x ∷ xs) (suc i) = behind x (place_of xs i)

at_behind : (x y : List View) (k : ℕ) → get_elem? (x ++ y) (behind x k) ≡ get_elem? y k
at_behind [] y k = refl
at_behind (a ∷ x) y k = at_behind x y k

set_behind : (x y : List View) (k : ℕ) (w : View) → set (x ++ y) (behind x k) w ≡ x ++ set y k w
set_behind [] y k w = refl
set_behind (a ∷ x) y k w = ap (λ (l : List View). a ∷ l) (set_behind x y k w)

pub at_joined : (vs : List (List View)) (id : ℕ) (v : View) (l : List View) → get_elem? vs id ≡ some (v ∷ l) → get_elem? (joined vs) (place_of vs id) ≡ some v
at_joined [] id v l at = absurd (some-ne-none (v ∷ l) (sym at))
at_joined (x ∷ xs) zero v l at = ap (λ (m : List View). get_elem? (m ++ joined xs) 0) (some-injective x (v ∷ l) at)
at_joined (x ∷ xs) (suc i) v l at = at_behind x (joined xs) (place_of xs i) ∙ at_joined xs i v l at

pub joined-set : (vs : List (List View)) (id : ℕ) (v w : View) → get_elem? vs id ≡ some (v ∷ []) → joined (set vs id (w ∷ [])) ≡ set (joined vs) (place_of vs id) w
joined-set [] id v w at = absurd (some-ne-none (v ∷ []) (sym at))
joined-set (x ∷ xs) zero v w at = sym (ap (λ (m : List View). set (m ++ joined xs) 0 w) (some-injective x (v ∷ []) at))
joined-set (x ∷ xs) (suc i) v w at = ap (λ (m : List View). x ++ m) (joined-set xs i v w at) ∙ sym (set_behind x (joined xs) (place_of xs i) w)

pub joined-push : (vs : List (List View)) (x : List View) → joined (vs ++ x ∷ []) ≡ joined vs ++ x
joined-push [] x = append-nil x
joined-push (y ∷ ys) x = ap (λ (m : List View). y ++ m) (joined-push ys x) ∙ sym (append_assoc y (joined ys) x)

-- before the first views there are none
front : (vs : List (List View)) (id : ℕ) (l : List View) (u : View) → get_elem? vs id ≡ some l → place_of vs id ≡ 0 → joined (set vs id (u ∷ l)) ≡ u ∷ joined vs
front [] id l u at here = absurd (some-ne-none l (sym at))
front (x ∷ xs) zero l u at here = ap (λ (m : List View). u ∷ m ++ joined xs) (sym (some-injective x l at))
front ([] ∷ xs) (suc i) l u at here = front xs i l u at here
front ((y ∷ ys) ∷ xs) (suc i) l u at here = absurd (omega arith)

-- views that stand beside one another can go to one seat
pub joined-moved : (vs : List (List View)) (id two : ℕ) (u a : View) (l : List View)
    → get_elem? vs id ≡ some (a ∷ l) → get_elem? vs two ≡ some (u ∷ []) → place_of vs id ≡ place_of vs two + 1
    → joined (set (set vs id (u ∷ a ∷ l)) two []) ≡ joined vs
joined-moved [] id two u a l at at' next = absurd (some-ne-none (a ∷ l) (sym at))
joined-moved (x ∷ xs) zero zero u a l at at' next = absurd (omega arith)
joined-moved (x ∷ xs) zero (suc j) u a l at at' next = absurd (omega arith)
joined-moved (x ∷ xs) (suc i) zero u a l at at' next =
    let is : x ≡ u ∷ [] = some-injective x (u ∷ []) at' in
    let one : length x ≡ 1 = ap length is in
    let none : place_of xs i ≡ 0 = omega (arith, behind-is x (place_of xs i)) in
    front xs i (a ∷ l) u at none ∙ ap (λ (m : List View). m ++ joined xs) (sym is)
joined-moved (x ∷ xs) (suc i) (suc j) u a l at at' next = ap (λ (m : List View). x ++ m) (joined-moved xs i j u a l at at' (omega (arith, behind-is x (place_of xs i), behind-is x (place_of xs j))))

part_of : (vs : List (List View)) (id : ℕ) (l : List View) → get_elem? vs id ≡ some l → length l ≤ length (joined vs)
part_of [] id l at = absurd (some-ne-none l (sym at))
part_of (x ∷ xs) zero l at = let e = ap length (some-injective x l at) in omega (arith, length-append x (joined xs))
part_of (x ∷ xs) (suc i) l at = let h = part_of xs i l at in omega (arith, length-append x (joined xs))

nothing : (l : List View) → length l ≡ 0 → l ≡ []
nothing [] e = refl
nothing (x ∷ xs) e = absurd (omega arith)

-- where one seat has as many views as there are, it has them all
pub joined-whole : (vs : List (List View)) (id : ℕ) (l : List View) → get_elem? vs id ≡ some l → length (joined vs) ≤ length l → joined vs ≡ l
joined-whole [] id l at few = absurd (some-ne-none l (sym at))
joined-whole (x ∷ xs) zero l at few =
    let is : x ≡ l = some-injective x l at in
    let same = ap length is in
    let rest : joined xs ≡ [] = nothing (joined xs) (omega (arith, length-append x (joined xs))) in
    ap (λ (m : List View). x ++ m) rest ∙ append-nil x ∙ is
joined-whole (x ∷ xs) (suc i) l at few =
    let part = part_of xs i l at in
    let none : x ≡ [] = nothing x (omega (arith, length-append x (joined xs))) in
    ap (λ (m : List View). m ++ joined xs) none ∙ joined-whole xs i l at (omega (arith, length-append x (joined xs)))
