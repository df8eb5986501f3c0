-- The checks of a clock row, one by one.
use Rattle.std.proofs.Common.{◌≡◌, ◌<◌, ◌+◌, ℕ, Bool, List, Option, Some, None, length, take, get_or, cond, refl, sym, ◌∙◌}
use Rattle.std.specs.Prelude.{is_some, bytes_eq, not}
use Rattle.std.specs.List.{list_any}
use Rattle.cmb_netlist.specs.Netlist.{Netlist, driver_of, number_of}
use Rattle.cmb_design_model.specs.Checks.{checks_at, first_fault}
use Rattle.cmb_design_model.specs.Nets.{is_flop}
use Rattle.cmb_design_model.specs.Rows.{clock_row_checks}
use Rattle.cmb_design_model.specs.Inner.Tables.{clock_place, clock_places, place_at}
use Rattle.cmb_design_model.specs.Timing.{clock_of_row}
use Rattle.cmb_design_model.specs.declared.fault.DesignFault.TheVariants as fault
use Rattle.cmb_design_model.specs.declared.rows.ClockRow.{ClockRow}
use Rattle.cmb_design_model.specs.declared.rows.Clock.{Clock}
use Rattle.cmb_design_model.proofs.CheckFacts.{checks_at-is}
use Rattle.cmb_design_model.proofs.PlaceFacts.{slot_taken, taken}
use Rattle.cmb_design_model.proofs.RowFacts.{list_any-same, named_same}
use Rattle.cmb_design_model.specs.Nets.{is_at}

repeated : (netlist : Netlist) (r : ClockRow) (k : ℕ) (es : List ClockRow) → number_of netlist r.net ≡ Some k
    → list_any (λ e. bytes_eq e.net r.net) es ≡ is_some (place_at (clock_place netlist) clock_of_row es k)
repeated netlist r k es h =
    list_any-same (λ e. bytes_eq e.net r.net) (λ e. is_at (clock_place netlist e) k) es (λ e. named_same netlist r.net e.net k h)
    ∙ sym (taken (clock_place netlist) clock_of_row es k)

pub clock_unknown : (netlist : Netlist) (rows : List ClockRow) (i : ℕ) (r : ClockRow) → i < length rows → r ≡ get_or rows i r → number_of netlist r.net ≡ None
    → first_fault (checks_at (clock_row_checks netlist) rows i) ≡ Some (fault.UnknownNet (i + 2))
unfolding clock_row_checks first_fault
clock_unknown netlist rows i r h e n = rw (checks_at-is (clock_row_checks netlist) rows i r h e, n) refl

-- what the checks of a row of a known net answer, by the slot that was read and by whether a flip-flop drives the net
pub clock_answer : (netlist : Netlist) (rows : List ClockRow) (i : ℕ) (r : ClockRow) (k : ℕ) (table : List (Option Clock)) (s : Option Clock) (held driven : Bool)
    → i < length rows → r ≡ get_or rows i r → number_of netlist r.net ≡ Some k → k < length netlist.names → table ≡ clock_places netlist (take i rows) → s ≡ get_or table k s
    → is_some s ≡ held → is_flop (driver_of netlist k) ≡ driven
    → first_fault (checks_at (clock_row_checks netlist) rows i) ≡ cond held (Some (fault.RepeatedRow (i + 2))) (cond (not driven) (Some (fault.NotFlop (i + 2))) None)
unfolding clock_row_checks first_fault
clock_answer netlist rows i r k table s held driven h e n b a f t w =
    let at : is_some (place_at (clock_place netlist) clock_of_row (take i rows) k) ≡ held = slot_taken (clock_place netlist) clock_of_row (length netlist.names) (take i rows) table k s held b a f t in
    let g : list_any (λ e. bytes_eq e.net r.net) (take i rows) ≡ held = repeated netlist r k (take i rows) n ∙ at in
    rw (checks_at-is (clock_row_checks netlist) rows i r h e, n, g, w) refl
