-- Parts become one.
use Rattle.std.proofs.Common.{◌≡◌, ◌⊎◌, inl, inr, ℕ, ◌+◌, ◌-◌, ◌<◌, ◌≤◌, List, [], ◌∷◌, ◌++◌, length, take, get_or, sym, ap, ◌∙◌, arith}
use Rattle.std.specs.Prelude.{All, AllPairs}
use Rattle.std.proofs.lemmas.Bool.{cases_lt}
use Rattle.std.proofs.lemmas.List.{get_or_default, append_assoc, take_all, take_more}
use Rattle.std.proofs.lemmas.List.Elements.{All-cons}

pub gone_more : (starts rest gone : List ℕ) (place last : ℕ) → place < last → starts ≡ (rest ++ last ∷ []) ++ gone → All (λ start. place < start) gone
    → (more : List ℕ) × (starts ≡ rest ++ more) × All (λ start. place < start) more
gone_more starts rest gone place last above e all =
    (last ∷ gone, e ∙ append_assoc rest (last ∷ []) gone, All-cons (λ start. place < start) last gone above all)

-- in a rising list all are at most the last one
pub low_all : (starts : List ℕ) (place : ℕ) → AllPairs (λ one other. one < other) starts → (0 < length starts → get_or starts (length starts - 1) 0 ≤ place) → All (λ start. start ≤ place) starts
low_all starts place rise last k d h =
    let top : get_or starts (length starts - 1) 0 ≤ place = last (omega arith) in
    let same : get_or starts k d ≡ get_or starts k 0 = sym (get_or_default starts k 0 d h) in
    by top same (cases_lt k (length starts - 1))
  where
    by : get_or starts (length starts - 1) 0 ≤ place → get_or starts k d ≡ get_or starts k 0 → (k < length starts - 1) ⊎ (length starts - 1 ≤ k) → get_or starts k d ≤ place
    by top same (inl l) = let lt = rise k (length starts - 1) 0 l (omega arith) in omega (arith, lt, top, same)
    by top same (inr g) = let e : k ≡ length starts - 1 = omega arith in let f : get_or starts k 0 ≡ get_or starts (length starts - 1) 0 = ap (λ i. get_or starts i 0) e in omega (arith, f, top, same)

pub split_last : (xs : List ℕ) → 0 < length xs → xs ≡ take (length xs - 1) xs ++ get_or xs (length xs - 1) 0 ∷ []
split_last xs some = sym (take_all (length xs - 1 + 1) xs (omega arith)) ∙ take_more xs (length xs - 1) 0 (omega arith)

-- one start was popped
pub popped : (begun xs ys rest gone : List ℕ) (len place : ℕ) → ys ≡ xs → length ys ≡ len → 0 < length ys → place < get_or ys (length ys - 1) 0 → rest ≡ take (len - 1) xs
    → begun ≡ xs ++ gone → All (λ start. place < start) gone → (more : List ℕ) × (begun ≡ rest ++ more) × All (λ start. place < start) more
popped begun xs ys rest gone len place e long some above r b all =
    let some' : 0 < length xs = rw e at some in
    let above' : place < get_or xs (length xs - 1) 0 = rw e at above in
    let n : len ≡ length xs = sym long ∙ ap length e in
    let front : take (length xs - 1) xs ≡ rest = sym (r ∙ ap (λ i. take (i - 1) xs) n) in
    let whole : xs ≡ rest ++ get_or xs (length xs - 1) 0 ∷ [] = split_last xs some' ∙ ap (λ l. l ++ get_or xs (length xs - 1) 0 ∷ []) front in
    gone_more begun rest gone place (get_or xs (length xs - 1) 0) above' (b ∙ ap (λ l. l ++ gone) whole) all
