-- Numbers, as far as they are read.
use Rattle.std.proofs.Common.{◌≡◌, ℕ, ◌+◌, ◌*◌, ◌-◌, ◌<◌, ◌≤◌, Bool, true, false, List, [], ◌∷◌, ◌++◌, length, take, drop, get_or, sym, ap, ◌∙◌, arith}
use Rattle.std.specs.Prelude.{bytes_eq, codes, decimal, fold, nat_lt, if◌then◌else◌}
use Rattle.std.proofs.lemmas.Bool.{le-ltb, lt-ltb}
use Rattle.std.proofs.lemmas.List.{take-append-drop, take_all}
use Rattle.std.proofs.lemmas.List.Sums.{fold-append, fold_more}
use Rattle.cmb_run_text.proofs.LineFacts.{joined}
use Rattle.cmb_run_text.specs.Vcd.{reference}
use Rattle.cmb_run_scopes.specs.Scopes.{bus, declared_name, index, is_bit, is_index, number}

abbrev step : ℕ → ℕ → ℕ
step n digit = n * 10 + (digit - 48)

grows : (n : ℕ) (digits : List ℕ) → n ≤ fold step n digits
grows n [] = omega arith
grows n (digit ∷ digits) = let more = grows (step n digit) digits in omega arith

-- one digit more
pub number-more : (digits : List ℕ) (i : ℕ) → i < length digits → number (take (i + 1) digits) ≡ number (take i digits) * 10 + (get_or digits i 0 - 48)
number-more digits i inside = fold_more step 0 digits i 0 inside

-- the number is at least what was read of it
pub number-grows : (digits : List ℕ) (i : ℕ) → number (take i digits) ≤ number digits
number-grows digits i =
    let parts : number (take i digits ++ drop i digits) ≡ fold step (number (take i digits)) (drop i digits) = fold-append step 0 (take i digits) (drop i digits) in
    let whole : number digits ≡ fold step (number (take i digits)) (drop i digits) = ap number (sym (take-append-drop i digits)) ∙ parts in
    let more = grows (number (take i digits)) (drop i digits) in
    omega arith

-- a number that is too large is none of a bit
pub too_large : (digits : List ℕ) (i : ℕ) → i < length digits → 2147483648 ≤ number (take i digits) * 10 + (get_or digits i 0 - 48) → false ≡ is_index digits
too_large digits i inside large =
    let more = number-more digits i inside in
    let grown = number-grows digits (i + 1) in
    let no : nat_lt (number digits) 2147483648 ≡ false = le-ltb (number digits) 2147483648 (omega arith) in
    rw no

-- one that isn't is compared with how it is written
pub compared : (digits : List ℕ) (i n : ℕ) → length digits ≤ i → n ≡ number (take i digits) → n < 2147483648 → bytes_eq digits (decimal n) ≡ is_index digits
compared digits i n read is small =
    let all : n ≡ number digits = is ∙ ap number (take_all i digits read) in
    let yes : nat_lt (number digits) 2147483648 ≡ true = lt-ltb (number digits) 2147483648 (omega arith) in
    rw (yes, all)

-- a bit, written in turn
pub declared-bit : (part o a b d e bus_now index_now : List ℕ) → is_bit part ≡ true → bus_now ≡ bus part → index_now ≡ index part
    → a ≡ o ++ reference bus_now → b ≡ a ++ codes " [" → d ≡ b ++ index_now → e ≡ d ++ codes "]" → e ≡ o ++ declared_name part
unfolding declared_name
declared-bit part o a b d e bus_now index_now bit is_bus is_index h1 h2 h3 h4 =
    let ref = reference (bus part) in
    let r1 : a ≡ o ++ ref = h1 ∙ ap (λ t. o ++ reference t) is_bus in
    let r3 : d ≡ b ++ index part = h3 ∙ ap (λ t. b ++ t) is_index in
    joined o d e (ref ++ codes " [" ++ index part) (codes "]") (joined o b d (ref ++ codes " [") (index part) (joined o a b ref (codes " [") r1 h2) r3) h4
    ∙ ap (λ t. o ++ t) (sym (ap (λ (t : Bool). if t then ref ++ codes " [" ++ index part ++ codes "]" else reference part) bit))

-- what is no bit
pub declared-other : (part : List ℕ) → is_bit part ≡ false → declared_name part ≡ reference part
unfolding declared_name
declared-other part other = ap (λ (t : Bool). if t then reference (bus part) ++ codes " [" ++ index part ++ codes "]" else reference part) other
