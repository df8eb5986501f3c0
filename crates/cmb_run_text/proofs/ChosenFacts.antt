-- The text of all nets is the design's, and nets that are chosen from a part have the text that they have in the whole.
use Rattle.std.proofs.Common.{◌≡◌, ℕ, ◌<◌, List, [], ◌∷◌, length, map, get_or, refl, sym, ap, ◌∙◌, arith}
use Rattle.std.specs.Prelude.{All}
use Rattle.std.specs.List.{range_with_len}
use Rattle.std.proofs.lemmas.List.{get_or-map, length-map}
use Rattle.std.proofs.lemmas.List.Elements.{All-head, All-tail}
use Rattle.std.proofs.lemmas.List.FromFn.{fill_by_all, get_or-range_with_len}
use Rattle.cmb_wave.specs.declared.level.Level.{Level}
use Rattle.cmb_netlist.specs.Netlist.{name_of}
use Rattle.cmb_design_model.specs.Design.{Design}
use Rattle.cmb_design_model.specs.Exact.{nets_of}
use Rattle.cmb_design_model.specs.Value.{value}
use Rattle.cmb_run_text.specs.Chosen.{names_of, vcd_of}
use Rattle.cmb_run_text.specs.Vcd.{part_text, vcd}
use Rattle.cmb_run_text.proofs.Texts.{part_text-agree}

pub vcd_of-all : (design : Design) → vcd_of design (range_with_len 0 (nets_of design)) ≡ vcd design
unfolding vcd_of vcd
vcd_of-all design =
    let n : ℕ = nets_of design in
    let names : map (name_of design.netlist) (range_with_len 0 n) ≡ design.netlist.names = sym (fill_by_all (name_of design.netlist) design.netlist.names n [] refl (λ k within. refl)) in
    let level : ℕ → ℕ → Level = λ place. value design (get_or (range_with_len 0 n) place 0) in
    ap (λ shown. part_text shown design.horizon level design.horizon) names
    ∙ part_text-agree design.netlist.names design.horizon level (value design) design.horizon
    (λ net tick within below. let e : get_or (range_with_len 0 n) net 0 ≡ net = omega (arith, get_or-range_with_len 0 n net 0 within) in ap (λ k. value design k tick) e)

map_twice : {X : Type 0} (f g : ℕ → X) (h : ℕ → ℕ) (count : ℕ) (xs : List ℕ) → ((x : ℕ) → x < count → f x ≡ g (h x)) → All (λ x. x < count) xs → map f xs ≡ map g (map h xs)
map_twice f g h count [] same all = refl
map_twice f g h count (x ∷ xs) same all =
    let here : f x ≡ g (h x) = same x (All-head (λ y. y < count) x xs all) in
    let rest : map f xs ≡ map g (map h xs) = map_twice f g h count xs same (All-tail (λ y. y < count) x xs all) in
    rw (here, rest) refl

pub vcd_of-part : (design part : Design) (nets chosen : List ℕ) → part.horizon ≡ design.horizon
    → ((net : ℕ) → net < length nets → name_of part.netlist net ≡ name_of design.netlist (get_or nets net 0))
    → ((net tick : ℕ) → net < length nets → value part net tick ≡ value design (get_or nets net 0) tick)
    → All (λ net. net < length nets) chosen → vcd_of part chosen ≡ vcd_of design (map (λ net. get_or nets net 0) chosen)
unfolding vcd_of
vcd_of-part design part nets chosen horizons names values all =
    let there : List ℕ = map (λ net. get_or nets net 0) chosen in
    let same : map (name_of part.netlist) chosen ≡ map (name_of design.netlist) there = map_twice (name_of part.netlist) (name_of design.netlist) (λ net. get_or nets net 0) (length nets) chosen names all in
    let level : ℕ → ℕ → Level = λ place. value part (get_or chosen place 0) in
    let other : ℕ → ℕ → Level = λ place. value design (get_or there place 0) in
    ap (λ h. part_text (names_of part.netlist chosen) h level h) horizons
    ∙ part_text-agree (names_of part.netlist chosen) design.horizon level other design.horizon
    (λ place tick within below.
    let long = length-map chosen (name_of part.netlist) in
    let here : place < length chosen = omega (arith, within, long) in
    values (get_or chosen place 0) tick (all place 0 here) ∙ ap (λ k. value design k tick) (sym (get_or-map (λ net. get_or nets net 0) chosen place 0 0 here)))
    ∙ ap (λ shown. part_text shown design.horizon other design.horizon) same
