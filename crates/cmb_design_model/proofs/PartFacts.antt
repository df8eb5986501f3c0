-- Some rows of a table are few and small as all are; a design for another netlist by its parts.
use Rattle.std.proofs.Common.{◌≡◌, ◌≤◌, ℕ, List, length, take, Bool, refl, sym, subst, arith}
use Rattle.std.specs.List.{filter}
use Rattle.std.proofs.lemmas.List.{length-take}
use Rattle.std.proofs.lemmas.List.Elements.{All-filter, All-take}
use Rattle.std.proofs.lemmas.List.Sums.{length-filter, count_by-le-length}
use Rattle.std.specs.Prelude.{option_map}
use Rattle.cmb_netlist.specs.Netlist.{Netlist}
use Rattle.cmb_design_model.specs.Design.{Design, clock_given, design_of}
use Rattle.cmb_design_model.specs.Part.{has_net, has_delayed, design_on}
use Rattle.cmb_design_model.specs.declared.settings.Settings.{Settings}
use Rattle.cmb_design_model.specs.Ranges.{AreRows}
use Rattle.cmb_design_model.specs.declared.rows.DelayRow.{DelayRow}
use Rattle.cmb_design_model.specs.declared.rows.StimulusRow.{StimulusRow}
use Rattle.cmb_design_model.specs.declared.rows.ClockRow.{ClockRow}
use Rattle.cmb_design_model.specs.declared.rows.InitialRow.{InitialRow}

few_kept : {X : Type 0} (p : X → Bool) (xs : List X) (i : ℕ) → length (filter p (take i xs)) ≤ length xs
few_kept p xs i =
    let a = length-filter p (take i xs) in
    let b = count_by-le-length p (take i xs) in
    let c = length-take i xs in
    omega arith

pub rows_kept : {R : Type 0} (IsLawful : R → Type 0) (p : R → Bool) (rows kept : List R) (i : ℕ) → AreRows IsLawful rows → kept ≡ filter p (take i rows) → AreRows IsLawful kept
rows_kept IsLawful p rows kept i are e = subst (AreRows IsLawful) (sym e) (record {
  few = let a = few_kept p rows i in omega (arith, are.few);
  lawful = All-filter p IsLawful (take i rows) (All-take IsLawful i rows are.lawful);
})

pub design_on-is : (design : Design) (netlist : Netlist) (settings : Settings) (delays : List DelayRow) (stimuli : List StimulusRow) (clocks : List ClockRow) (initial : List InitialRow)
    → settings.horizon ≡ design.horizon → settings.init ≡ design.init → option_map clock_given settings.clock ≡ design.clock
    → delays ≡ filter (λ row. has_delayed netlist row.what) design.delays → stimuli ≡ filter (λ row. has_net netlist row.net) design.stimuli → clocks ≡ filter (λ row. has_net netlist row.net) design.clocks → initial ≡ filter (λ row. has_net netlist row.net) design.initial
    → design_of netlist settings delays stimuli clocks initial ≡ design_on design netlist
design_on-is design netlist settings delays stimuli clocks initial a b c d e f g = rw (a, b, c, d, e, f, g) refl
