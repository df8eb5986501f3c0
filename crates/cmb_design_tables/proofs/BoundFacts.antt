-- The bounds in the definitions of delays and clocks change nothing where the numbers are lawful.
use Rattle.std.proofs.Common.{◌≡◌, ◌≤◌, ℕ, Bool, true, false, List, [], ◌∷◌, Option, Some, None, IfSome, cond, max, unwrap_or, option_map, find, All, not, nat_le, ◌&&◌, refl, arith}
use Rattle.std.specs.Option.{option_or}
use Rattle.std.proofs.lemmas.Bool.Decides.{nat_tests}
use Rattle.std.proofs.lemmas.List.Elements.{All-head, All-tail}
use Rattle.cmb_design_model.specs.Checks.{first_fault}
use Rattle.cmb_design_model.specs.Nets.{is_within}
use Rattle.cmb_design_tables.specs.Readers.{clock_header, clock_record_checks, clock_row_of, delay_header, delay_record_checks, delay_row_of, table_checks, table_rows}
use Rattle.cmb_design_model.specs.Timing.{delay_in}
use Rattle.cmb_design_model.specs.declared.rows.Delayed.{Delayed}
use Rattle.cmb_design_model.specs.declared.rows.DelayRow.{DelayRow}
use Rattle.cmb_design_tables.proofs.ReadFacts.{table_all, delay_good, clock_good}

abbrev IsPositive : Option ℕ → Type 0
IsPositive o = IfSome o (λ n. 1 ≤ n)

found : (is_of : Delayed → Bool) (rows : List DelayRow) → All (λ row. 1 ≤ row.delay) rows → IsPositive (delay_in is_of rows)
found is_of [] all = tt
found is_of (r ∷ rs) all = by (is_of r.what) (found is_of rs (All-tail (λ (row : DelayRow). 1 ≤ row.delay) r rs all))
  where
    by : (b : Bool) → IsPositive (delay_in is_of rs) → IsPositive (option_map (λ (row : DelayRow). row.delay) (cond b (Some r) (find (λ (row : DelayRow). is_of row.what) rs)))
    by true rest = All-head (λ (row : DelayRow). 1 ≤ row.delay) r rs all
    by false rest = rest

either : (a b : Option ℕ) → IsPositive a → IsPositive b → IsPositive (option_or a b)
either None b p q = q
either (Some n) b p q = p

largest : (n : ℕ) → 1 ≤ n → max n 1 ≡ n
largest n h = omega arith

given : (o : Option ℕ) → IsPositive o → max (unwrap_or o 1) 1 ≡ unwrap_or o 1
given None p = refl
given (Some n) p = largest n p

-- what three sorts of rows give, the first that gives something
pub unbounded : (pin net kind : Delayed → Bool) (rows : List DelayRow) → All (λ row. 1 ≤ row.delay) rows
    → max (unwrap_or (option_or (delay_in pin rows) (option_or (delay_in net rows) (delay_in kind rows))) 1) 1
    ≡ unwrap_or (option_or (delay_in pin rows) (option_or (delay_in net rows) (delay_in kind rows))) 1
unbounded pin net kind rows all =
    given (option_or (delay_in pin rows) (option_or (delay_in net rows) (delay_in kind rows)))
    (either (delay_in pin rows) (option_or (delay_in net rows) (delay_in kind rows)) (found pin rows all) (either (delay_in net rows) (delay_in kind rows) (found net rows all) (found kind rows all)))

pub delays_read : (records : List (List (List ℕ))) → first_fault (table_checks delay_header delay_record_checks records) ≡ None → All (λ row. 1 ≤ row.delay) (table_rows delay_row_of records)
delays_read records h = table_all delay_row_of (λ row. 1 ≤ row.delay) delay_header delay_record_checks (λ n f e. (delay_good n f e).0) records h

pub periods_read : (records : List (List (List ℕ))) → first_fault (table_checks clock_header clock_record_checks records) ≡ None → All (λ row. 1 ≤ row.period) (table_rows clock_row_of records)
periods_read records h = table_all clock_row_of (λ row. 1 ≤ row.period) clock_header clock_record_checks (λ n f e. (clock_good n f e).1) records h

pub same_period : (n : ℕ) → 1 ≤ n → max n 1 ≡ n
same_period = largest

pub checked_period : (first period : ℕ) → not (nat_le first 1000000 && is_within 1 1000000 period) ≡ false → 1 ≤ period
checked_period first period h = grind (arith, nat_tests)
