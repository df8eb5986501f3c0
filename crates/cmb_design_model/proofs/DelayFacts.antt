-- The checks of a delay row, by its place in the table.
use Rattle.std.proofs.Common.{◌≡◌, ◌<◌, ◌+◌, ℕ, Bool, List, [], ◌∷◌, Option, Some, None, cond, length, take, get_or, true, false, refl, sym, ap, ◌∙◌}
use Rattle.std.specs.Prelude.{is_some}
use Rattle.std.specs.List.{list_any}
use Rattle.std.proofs.lemmas.List.Folds.{list_all-append}
use Rattle.cmb_netlist.specs.Netlist.{Netlist}
use Rattle.cmb_design_model.specs.Checks.{checks_at, first_fault}
use Rattle.cmb_design_model.specs.Rows.{delay_row_checks, delayed_checks, is_about_input, same_delayed}
use Rattle.cmb_design_model.specs.Inner.Tables.{all_placed, delay_place, delay_places, place_at, row_place, table_size}
use Rattle.cmb_design_model.specs.declared.fault.DesignFault.{DesignFault}
use Rattle.cmb_design_model.specs.declared.fault.DesignFault.TheVariants as fault
use Rattle.cmb_design_model.specs.declared.rows.DelayRow.{DelayRow}
use Rattle.cmb_design_model.proofs.CheckFacts.{checks_at-is, take_one}
use Rattle.cmb_design_model.proofs.PlaceFacts.{slot_taken, taken}
use Rattle.cmb_design_model.proofs.RowFacts.{checks_placed, place_below, repeated_place, unplaced_new}

checks_of_row : (netlist : Netlist) (rows : List DelayRow) (i : ℕ) (r : DelayRow) → i < length rows → r ≡ get_or rows i r
    → checks_at (delay_row_checks netlist) rows i ≡ delayed_checks netlist (i + 2) (list_any (λ o. same_delayed o.what r.what) (take i rows)) r.what
unfolding delay_row_checks
checks_of_row netlist rows i r h e = checks_at-is (delay_row_checks netlist) rows i r h e

repeated : (netlist : Netlist) (rows : List DelayRow) (i : ℕ) (r : DelayRow) (k : ℕ) → delay_place netlist r.what ≡ Some k
    → list_any (λ o. same_delayed o.what r.what) (take i rows) ≡ is_some (place_at (row_place netlist) (λ row. row.delay) (take i rows) k)
repeated netlist rows i r k p = sym (repeated_place netlist r.what k (take i rows) p) ∙ sym (taken (row_place netlist) (λ row. row.delay) (take i rows) k)

pub delay_unplaced : (netlist : Netlist) (rows : List DelayRow) (i : ℕ) (r : DelayRow) (f : DesignFault) → i < length rows → r ≡ get_or rows i r → delay_place netlist r.what ≡ None
    → all_placed netlist (take i rows) ≡ true → first_fault (delayed_checks netlist (i + 2) false r.what) ≡ Some f → first_fault (checks_at (delay_row_checks netlist) rows i) ≡ Some f
delay_unplaced netlist rows i r f h e p a q =
    ap first_fault (checks_of_row netlist rows i r h e) ∙ ap (λ b. first_fault (delayed_checks netlist (i + 2) b r.what)) (unplaced_new netlist r.what (take i rows) p a) ∙ q

-- what the checks of a row with a place answer, by the slot that was read and by whether it is about an input
pub delay_answer : (netlist : Netlist) (rows : List DelayRow) (i : ℕ) (r : DelayRow) (k : ℕ) (table : List (Option ℕ)) (s : Option ℕ) (held about : Bool)
    → i < length rows → r ≡ get_or rows i r → delay_place netlist r.what ≡ Some k → table ≡ delay_places netlist (take i rows) → s ≡ get_or table k s
    → is_some s ≡ held → is_about_input netlist r.what ≡ about
    → first_fault (checks_at (delay_row_checks netlist) rows i) ≡ cond held (Some (fault.RepeatedRow (i + 2))) (cond about (Some (fault.DelayOfInput (i + 2))) None)
delay_answer netlist rows i r k table s held about h e p a f t w =
    let at = slot_taken (row_place netlist) (λ row. row.delay) (table_size netlist) (take i rows) table k s held (place_below netlist r.what k p) a f t in
    ap first_fault (checks_of_row netlist rows i r h e)
    ∙ ap (λ b. first_fault (delayed_checks netlist (i + 2) b r.what)) (repeated netlist rows i r k p ∙ at)
    ∙ checks_placed netlist (i + 2) k held about r.what p w

pub placed_one : (netlist : Netlist) (rows : List DelayRow) (i : ℕ) (r : DelayRow) (k : ℕ) → i < length rows → r ≡ get_or rows i r → all_placed netlist (take i rows) ≡ true
    → delay_place netlist r.what ≡ Some k → all_placed netlist (take (i + 1) rows) ≡ true
placed_one netlist rows i r k h e a p =
    rw (take_one rows i r h e) (list_all-append (λ row. is_some (row_place netlist row)) (take i rows) (r ∷ []) ∙ rw (a, p) refl)
