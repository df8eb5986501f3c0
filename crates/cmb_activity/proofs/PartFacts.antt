-- Nets that are chosen from a part of a design have the table that they have in the whole.
use Rattle.std.proofs.Common.{◌≡◌, ℕ, ◌-◌, ◌<◌, List, [], ◌∷◌, ◌++◌, map, length, get_or, refl, ap, ◌∙◌}
use Rattle.std.specs.Prelude.{All}
use Rattle.std.specs.List.{flat_map}
use Rattle.std.proofs.lemmas.List.Elements.{All-head, All-tail}
use Rattle.cmb_wave.specs.declared.level.Level.{Level}
use Rattle.cmb_wave.specs.declared.level.Level.TheVariants.{Zero, One, X}
use Rattle.cmb_wave.specs.Waveform.{count_below}
use Rattle.cmb_netlist.specs.Netlist.{name_of}
use Rattle.cmb_design_model.specs.Design.{Design}
use Rattle.cmb_design_model.specs.Value.{value}
use Rattle.cmb_activity.specs.Activities.{ticks_at}
use Rattle.cmb_activity.specs.Texts.{activity_table, header, net_row, row}

-- the row of a name with a waveform
abbrev row_of : ℕ → List ℕ → (ℕ → Level) → List ℕ
row_of horizon name level =
    row name (count_below level horizon - count_below level 1) (ticks_at level Zero horizon) (ticks_at level One horizon) (ticks_at level X horizon)

same_row : (design part : Design) (net other : ℕ) → part.horizon ≡ design.horizon → name_of part.netlist net ≡ name_of design.netlist other
    → ((tick : ℕ) → value part net tick ≡ value design other tick) → net_row part net ≡ net_row design other
same_row design part net other horizons names values =
    let levels : value part net ≡ value design other = λ i tick. values tick i in
    ap (λ horizon. row_of horizon (name_of part.netlist net) (value part net)) horizons
    ∙ ap (λ name. row_of design.horizon name (value part net)) names
    ∙ ap (row_of design.horizon (name_of design.netlist other)) levels

same_rows : (f g : ℕ → List ℕ) (h : ℕ → ℕ) (count : ℕ) (nets : List ℕ) → ((net : ℕ) → net < count → f net ≡ g (h net)) → All (λ net. net < count) nets
    → flat_map f nets ≡ flat_map g (map h nets)
same_rows f g h count [] same all = refl
same_rows f g h count (net ∷ nets) same all =
    let here : f net ≡ g (h net) = same net (All-head (λ n. n < count) net nets all) in
    let rest : flat_map f nets ≡ flat_map g (map h nets) = same_rows f g h count nets same (All-tail (λ n. n < count) net nets all) in
    rw (here, rest) refl

pub activity_table-part : (design part : Design) (nets chosen : List ℕ) → part.horizon ≡ design.horizon
    → ((net : ℕ) → net < length nets → name_of part.netlist net ≡ name_of design.netlist (get_or nets net 0))
    → ((net tick : ℕ) → net < length nets → value part net tick ≡ value design (get_or nets net 0) tick)
    → All (λ net. net < length nets) chosen → activity_table part chosen ≡ activity_table design (map (λ net. get_or nets net 0) chosen)
activity_table-part design part nets chosen horizons names values all =
    ap (λ rows. header ++ rows)
    (same_rows (net_row part) (net_row design) (λ net. get_or nets net 0) (length nets) chosen
    (λ net h. same_row design part net (get_or nets net 0) horizons (names net h) (λ tick. values net tick h)) all)
