-- The texts that ways make, with scopes.
use Rattle.std.proofs.Common.{◌≡◌, ℕ, ◌≤◌, true, List, length, Ok, Err, ap, ◌∙◌}
use Rattle.std.specs.Prelude.{IfOk, Result}
use Rattle.std.specs.List.{range_with_len}
use Rattle.cmb_design_model.specs.Design.{Design}
use Rattle.cmb_netlist.specs.Netlist.{Netlist}
use Rattle.cmb_run_scopes.proofs.FormFacts.{names_of-all, replaced-scoped, vcd-header, vcd_of-header}
use Rattle.cmb_run_scopes.specs.Scopes.{replaced, scoped_header}
use Rattle.cmb_run_scopes.specs.declared.header.Headers.{Headers}
use Rattle.cmb_run_text.specs.Chosen.{names_of}
use Rattle.cmb_run_text.specs.Vcd.{header}
use Rattle.cmb_sim.specs.Inner.Plans.{AreHeaders, form_text, way_names, way_text}
use Rattle.cmb_sim.specs.declared.plan.Way.{Way}
use Rattle.cmb_sim.specs.declared.plan.Way.TheVariants.{Picked, Chosen}

-- the lines of all nets are those of the netlist's names
pub whole-headers : {E : Type 0} (netlist : Netlist) (nets : List ℕ) (answer : Result Headers E) → nets ≡ range_with_len 0 (length netlist.names)
    → IfOk answer (λ headers. headers.scoped.items ≡ scoped_header (names_of netlist nets)) → IfOk answer (λ headers. headers.plain ≡ length (header (names_of netlist nets)))
    → IfOk answer (AreHeaders netlist.names)
whole-headers netlist nets (Ok headers) all lines plain =
    let named : names_of netlist nets ≡ netlist.names = ap (names_of netlist) all ∙ names_of-all netlist in
    record { lines = lines ∙ ap scoped_header named; plain = plain ∙ ap (λ (names : List (List ℕ)). length (header names)) named }
whole-headers netlist nets (Err e) all lines plain = tt

-- a way's text begins with its header
pub way-header : (way : Way) (design : Design) → length (header (way_names way design)) ≤ length (way_text way design)
way-header (Picked nets) design = vcd_of-header design nets.items
way-header (Chosen nets threads) design = vcd_of-header design nets.items
way-header way design = vcd-header design

-- so does what was made of it
pub way-behind : (way : Way) (design : Design) (headers : Headers) (text : List ℕ) → AreHeaders (way_names way design) headers → text ≡ way_text way design
    → headers.plain ≤ length text
way-behind way design headers text are is = rw (are.plain, is) (way-header way design)

-- what is written in its place gives the text with scopes
pub replaced-way : (way : Way) (design : Design) (headers : Headers) (text : List ℕ) → AreHeaders (way_names way design) headers → text ≡ way_text way design
    → replaced headers.scoped.items headers.plain text ≡ form_text true way design
replaced-way way design headers text are is =
    replaced-scoped (way_names way design) (way_text way design) headers.scoped.items text headers.plain are.lines are.plain is
