-- The numbers in the rows of a table whose records passed their checks.
use Rattle.std.proofs.Common.{◌≡◌, ◌≤◌, ◌<◌, ◌+◌, ℕ, List, [], ◌∷◌, ◌++◌, length, map, None, false, arith}
use Rattle.std.specs.Prelude.{◌==◌, All}
use Rattle.std.proofs.lemmas.Bool.Decides.{nat_tests}
use Rattle.std.proofs.lemmas.List.{length-map}
use Rattle.std.proofs.lemmas.List.Elements.{All-cons, All-nil}
use Rattle.cmb_design_model.specs.Checks.{Check, checks_after, first_fault}
use Rattle.cmb_design_model.specs.Ranges.{AreRows, AreTicks, IsDelay}
use Rattle.cmb_design_model.proofs.RangeFacts.{first_passes, parts_pass, ticks_within, within}
use Rattle.cmb_design_tables.specs.Readers.{clock_record_checks, clock_row_of, delay_record_checks, delay_row_of, field, name_checks, record_checks, table_checks, table_rows, value_in}

-- what holds of each row that passed holds of all rows of a table
rows_all : {X : Type 0} (row : List (List ℕ) → X) (P : X → Type 0) (header : List (List ℕ)) (checks : ℕ → List (List ℕ) → List Check)
    → ((n : ℕ) (f : List (List ℕ)) → first_fault (checks n f) ≡ None → P (row f))
    → (n : ℕ) (earlier rs : List (List (List ℕ))) → 1 < n → first_fault (checks_after (λ n earlier fields. record_checks header checks n fields) n earlier rs) ≡ None
    → All P (map row rs)
unfolding checks_after
rows_all row P header checks good n earlier [] h e = All-nil P
rows_all row P header checks good n earlier (r ∷ rs) h e =
    let later : (n == 1) ≡ false = grind (arith, nat_tests) in
    let p = parts_pass (record_checks header checks n r) (checks_after (λ n earlier fields. record_checks header checks n fields) (n + 1) (earlier ++ r ∷ []) rs) e in
    let q : first_fault (checks n r) ≡ None = rw later at p.0 in
    All-cons P (row r) (map row rs) (good n r q) (rows_all row P header checks good (n + 1) (earlier ++ r ∷ []) rs (omega arith) p.1)

pub table_all : {X : Type 0} (row : List (List ℕ) → X) (P : X → Type 0) (header : List (List ℕ)) (checks : ℕ → List (List ℕ) → List Check)
    → ((n : ℕ) (f : List (List ℕ)) → first_fault (checks n f) ≡ None → P (row f))
    → (records : List (List (List ℕ))) → first_fault (table_checks header checks records) ≡ None → All P (table_rows row records)
unfolding checks_after
table_all row P header checks good [] e = All-nil P
table_all row P header checks good (h ∷ rs) e =
    let p = parts_pass (record_checks header checks 1 h) (checks_after (λ n earlier fields. record_checks header checks n fields) 2 (h ∷ []) rs) e in
    rows_all row P header checks good 2 (h ∷ []) rs (omega arith) p.1

length-table_rows : {X : Type 0} (row : List (List ℕ) → X) (records : List (List (List ℕ))) → length (table_rows row records) ≤ length records
length-table_rows row [] = omega arith
length-table_rows row (h ∷ rs) = omega (arith, length-map rs row)

pub delay_good : (n : ℕ) (f : List (List ℕ)) → first_fault (delay_record_checks n f) ≡ None → IsDelay (delay_row_of f).delay
unfolding delay_record_checks delay_row_of
delay_good n f h =
    let a = first_passes _ _ h in
    let b = first_passes _ _ a.1 in
    let c = parts_pass (name_checks n (field f 0) (field f 1)) _ b.1 in
    let d = first_passes _ _ c.1 in
    within 1 1000000 (value_in (field f 2)) d.0

pub clock_good : (n : ℕ) (f : List (List ℕ)) → first_fault (clock_record_checks n f) ≡ None → AreTicks (clock_row_of f).first (clock_row_of f).period
unfolding clock_record_checks clock_row_of
clock_good n f h =
    let a = first_passes _ _ h in
    let b = first_passes _ _ a.1 in
    let c = first_passes _ _ b.1 in
    ticks_within (value_in (field f 1)) (value_in (field f 2)) c.0

-- the rows of a table of which no check stands
pub rows_are : {X : Type 0} (row : List (List ℕ) → X) (P : X → Type 0) (header : List (List ℕ)) (checks : ℕ → List (List ℕ) → List Check)
    → ((n : ℕ) (f : List (List ℕ)) → first_fault (checks n f) ≡ None → P (row f))
    → (records : List (List (List ℕ))) → length records ≤ 16777216 → first_fault (table_checks header checks records) ≡ None → AreRows P (table_rows row records)
rows_are row P header checks good records few h = record {
  few = omega (arith, length-table_rows row records);
  lawful = table_all row P header checks good records h;
}
