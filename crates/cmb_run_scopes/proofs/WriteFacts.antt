-- Two texts, written in turn.
use Rattle.std.proofs.Common.{◌≡◌, ℕ, suc, ◌+◌, ◌<◌, List, [], ◌∷◌, ◌++◌, Option, length, take, ap, sym, arith, subst}
use Rattle.std.proofs.lemmas.List.{take-append-le}
use Rattle.std.proofs.KnownBytes.{Appends-trans}
use Rattle.std.specs.Io.KnownBytes.{Appends}

into_second : (xs ys : List ℕ) (n : ℕ) → take (length xs + n) (xs ++ ys) ≡ xs ++ take n ys
into_second [] ys n = let same : 0 + n ≡ n = omega arith in rw same
into_second (x ∷ xs) ys n = let same : length (x ∷ xs) + n ≡ suc (length xs + n) = omega arith in rw same (ap (λ t. x ∷ t) (into_second xs ys n))

-- the first was begun
pub begun-first : (a b : Option (List ℕ)) (xs ys : List ℕ) (n : ℕ) → n < length xs → Appends a b (take n xs) → Appends a b (take n (xs ++ ys))
begun-first a b xs ys n short took = subst (Appends a b) (sym (take-append-le n xs ys (omega arith))) took

-- the second was begun
pub begun-second : (a b c : Option (List ℕ)) (xs ys : List ℕ) (n : ℕ) → Appends a b xs → Appends b c (take n ys) → Appends a c (take (length xs + n) (xs ++ ys))
begun-second a b c xs ys n first then_ = subst (Appends a c) (sym (into_second xs ys n)) (Appends-trans a b c xs (take n ys) first then_)
