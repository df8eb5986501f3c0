-- The records of a table in turn: one more is taken.
use Rattle.std.proofs.Common.{◌≡◌, ◌+◌, ◌∙◌, ℕ, List, [], ◌∷◌, ◌++◌, length, map, arith, sym, ap, false, if◌then◌else◌}
use Rattle.std.specs.Prelude.{◌==◌}
use Rattle.std.proofs.lemmas.Bool.Decides.{nat_tests}
use Rattle.std.proofs.lemmas.List.{map-append}
use Rattle.cmb_design_tables.specs.Fields.{fields_in}
use Rattle.cmb_design_tables.specs.Readers.{table_rows}

-- the rows after one more record: the header is none
pub rows_next : {X : Type 0} (row : List (List ℕ) → X) (a : List (List (List ℕ))) (r : List (List ℕ)) (n : ℕ) (old new : List X)
    → length a + 1 ≡ n → old ≡ table_rows row a → new ≡ (if n == 1 then old else old ++ row r ∷ []) → new ≡ table_rows row (a ++ r ∷ [])
rows_next row [] r n old new k h e = let one : n ≡ 1 = omega arith in rw one at e ∙ h
rows_next row (x ∷ a) r n old new k h e =
    let more : (n == 1) ≡ false = grind (arith, nat_tests) in
    rw more at e ∙ ap (λ t. t ++ row r ∷ []) h ∙ sym (map-append row a (r ∷ []))

-- the records after one more
pub records_next_taken : (all a left b : List (List (List ℕ))) (r : List (List ℕ)) → all ≡ a ++ map fields_in left → left ≡ r ∷ b
    → all ≡ a ++ fields_in r ∷ map fields_in b
records_next_taken all a left b r h e = rw e at h
