-- The blanks at a field's ends, numbers and pins.
use Rattle.std.proofs.Common.{◌≡◌, ◌≤◌, ◌<◌, ◌+◌, ℕ, zero, suc, List, [], ◌∷◌, length, take, drop, get_or, Option, Some, None, true, false, Bool, refl, arith, add-one, drop-cons}
use Rattle.std.specs.Prelude.{◌&&◌, ◌==◌, nat_le}
use Rattle.std.specs.Char.{is_ascii_digit}
use Rattle.std.specs.List.{list_all}
use Rattle.std.proofs.lemmas.Bool.Decides.{nat_tests}
use Rattle.csv.specs.Records.{field_at}
use Rattle.std.specs.Prelude.{IfSome, IsSome, option_map, slice_get}
use denote.Ref.{Bor}
use Rattle.cmb_design_tables.specs.Fields.{fields_in, number, split_pin, trimmed, decimal}

-- numbers
pub number-empty : (xs : List ℕ) → length xs ≡ 0 → number xs ≡ None
unfolding number
number-empty [] h = refl
number-empty (x ∷ xs) h = absurd (omega arith)

and-false : (a b : Bool) → (a && false && b) ≡ false
and-false true b = refl
and-false false b = refl

and-false_right : (a : Bool) → (a && false) ≡ false
and-false_right true = refl
and-false_right false = refl

pub number-long : (xs : List ℕ) → 10 < length xs → number xs ≡ None
unfolding number
number-long xs h = let e : nat_le (length xs) 10 ≡ false = grind (arith, nat_tests) in rw (e, and-false) refl

list_all-not : (p : ℕ → Bool) (xs : List ℕ) (i : ℕ) → i < length xs → p (get_or xs i 0) ≡ false → list_all p xs ≡ false
list_all-not p [] i h e = absurd (omega arith)
list_all-not p (x ∷ xs) zero h e = rw e refl
list_all-not p (x ∷ xs) (suc i) h e = rw (list_all-not p xs i (omega arith) e) (and-false_right (p x))

pub number-letter : (xs : List ℕ) (i : ℕ) → i < length xs → is_ascii_digit (get_or xs i 0) ≡ false → number xs ≡ None
unfolding number
number-letter xs i h e = rw (list_all-not is_ascii_digit xs i h e, and-false_right) refl

pub number-digits : (xs : List ℕ) → 0 < length xs → length xs ≤ 10 → list_all is_ascii_digit xs ≡ true → number xs ≡ Some (decimal xs)
unfolding number
number-digits xs a b e =
    let f : nat_le 1 (length xs) ≡ true = grind (arith, nat_tests) in
    let g : nat_le (length xs) 10 ≡ true = grind (arith, nat_tests) in
    rw (f, g, e) refl

-- the last colon
pub split_pin-colon : (xs : List ℕ) (i : ℕ) → i < length xs → get_or xs i 0 ≡ 58 → split_pin (drop (i + 1) xs) ≡ None → split_pin xs ≡ Some (take i xs, drop (i + 1) xs)
unfolding split_pin
split_pin-colon [] i h b e = absurd (omega arith)
split_pin-colon (x ∷ xs) zero h b e = rw (b, e) refl
split_pin-colon (x ∷ xs) (suc i) h b e =
    let n : suc i + 1 ≡ suc (i + 1) = omega arith in
    let f : split_pin (drop (i + 1) xs) ≡ None = rw n at e in
    rw (split_pin-colon xs i (omega arith) b f, n) refl

pub split_pin-other : (xs : List ℕ) (i : ℕ) → i < length xs → (get_or xs i 0 == 58) ≡ false → split_pin (drop (i + 1) xs) ≡ None → split_pin (drop i xs) ≡ None
unfolding split_pin
split_pin-other xs i h b e = let f : drop i xs ≡ get_or xs i 0 ∷ drop (suc i) xs = drop-cons xs i 0 h in let g : split_pin (drop (suc i) xs) ≡ None = rw add-one at e in rw (f, g, b) refl

-- the fields of a record
pub field_trimmed : (fs : List (List ℕ)) (i : ℕ) → i < length fs → (o : Option (Bor (List ℕ))) → option_map (λ s. s.now) o ≡ field_at fs i
    → IfSome o (λ f. slice_get (fields_in fs) i ≡ Some (trimmed f.now)) × IsSome o
unfolding field_at
field_trimmed [] i h o e = absurd (omega arith)
field_trimmed (f ∷ fs) zero h None e = cc e
field_trimmed (f ∷ fs) zero h (Some g) e = let n : g.now ≡ f = cc in (rw n refl, refl)
field_trimmed (f ∷ fs) (suc i) h o e = field_trimmed fs i (omega arith) o e

pub two_of : (fs : List (List ℕ)) (a b : List ℕ) → length fs ≡ 2 → slice_get fs 0 ≡ Some a → slice_get fs 1 ≡ Some b → fs ≡ a ∷ b ∷ []
two_of [] a b n x y = absurd (omega arith)
two_of (f ∷ []) a b n x y = absurd (omega arith)
two_of (f ∷ g ∷ []) a b n x y = let p : f ≡ a = cc in let q : g ≡ b = cc in rw (p, q) refl
two_of (f ∷ g ∷ h ∷ rest) a b n x y = absurd (omega arith)

pub three_of : (fs : List (List ℕ)) (a b c : List ℕ) → length fs ≡ 3 → slice_get fs 0 ≡ Some a → slice_get fs 1 ≡ Some b → slice_get fs 2 ≡ Some c → fs ≡ a ∷ b ∷ c ∷ []
three_of [] a b c n x y z = absurd (omega arith)
three_of (f ∷ []) a b c n x y z = absurd (omega arith)
three_of (f ∷ g ∷ []) a b c n x y z = absurd (omega arith)
three_of (f ∷ g ∷ h ∷ []) a b c n x y z = let p : f ≡ a = cc in let q : g ≡ b = cc in let r : h ≡ c = cc in rw (p, q, r) refl
three_of (f ∷ g ∷ h ∷ i ∷ rest) a b c n x y z = absurd (omega arith)
