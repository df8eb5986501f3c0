-- Texts with scopes, of the texts of designs.
use Rattle.std.proofs.Common.{◌≡◌, ℕ, ◌+◌, ◌<◌, ◌≤◌, Bool, List, [], ◌++◌, length, map, refl, sym, ap, ◌∙◌, arith, length-append}
use Rattle.std.specs.List.{range_with_len}
use Rattle.std.proofs.lemmas.List.FromFn.{fill_by_all}
use Rattle.cmb_wave.specs.declared.level.Level.{Level}
use Rattle.cmb_netlist.specs.Netlist.{Netlist, name_of}
use Rattle.cmb_design_model.specs.Design.{Design}
use Rattle.cmb_design_model.specs.Exact.{nets_of}
use Rattle.cmb_run_text.proofs.ChosenFacts.{vcd_of-all}
use Rattle.cmb_run_text.specs.Chosen.{names_of, vcd_of}
use Rattle.cmb_run_text.specs.Vcd.{header, part_text, vcd}
use Rattle.cmb_run_scopes.specs.Scopes.{in_form, replaced, scoped, scoped_header}

part-header : (names : List (List ℕ)) (horizon : ℕ) (level : ℕ → ℕ → Level) (upto : ℕ) → length (header names) ≤ length (part_text names horizon level upto)
unfolding part_text
part-header names horizon level upto = simp (length-append) (omega arith)

-- a text begins with its header
pub vcd-header : (design : Design) → length (header design.netlist.names) ≤ length (vcd design)
unfolding vcd
vcd-header design = part-header design.netlist.names design.horizon _ design.horizon

pub vcd_of-header : (design : Design) (nets : List ℕ) → length (header (names_of design.netlist nets)) ≤ length (vcd_of design nets)
unfolding vcd_of
vcd_of-header design nets = part-header (names_of design.netlist nets) design.horizon _ design.horizon

-- what is written in its place gives the text with scopes
pub replaced-scoped : (names : List (List ℕ)) (whole lines text : List ℕ) (plain : ℕ) → lines ≡ scoped_header names → plain ≡ length (header names) → text ≡ whole
    → replaced lines plain text ≡ scoped names whole
unfolding scoped
replaced-scoped names whole lines text plain a b c =
    ap (λ t. replaced t plain text) a ∙ ap (λ n. replaced (scoped_header names) n text) b ∙ ap (replaced (scoped_header names) (length (header names))) c

pub names_of-all : (netlist : Netlist) → names_of netlist (range_with_len 0 (length netlist.names)) ≡ netlist.names
names_of-all netlist = sym (fill_by_all (name_of netlist) netlist.names (length netlist.names) [] refl (λ k within. refl))

-- where all nets are chosen, their text is that of the design
pub form-all : (scopes : Bool) (design : Design) (nets : List ℕ) → nets ≡ range_with_len 0 (nets_of design)
    → in_form scopes (names_of design.netlist nets) (vcd_of design nets) ≡ in_form scopes design.netlist.names (vcd design)
form-all scopes design nets all =
    let every = range_with_len 0 (nets_of design) in
    ap (λ (ns : List ℕ). in_form scopes (names_of design.netlist ns) (vcd_of design ns)) all
    ∙ ap (λ (names : List (List ℕ)). in_form scopes names (vcd_of design every)) (names_of-all design.netlist)
    ∙ ap (in_form scopes design.netlist.names) (vcd_of-all design)
