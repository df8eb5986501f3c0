-- Waves of chosen nets, taken out of those of all.
use Rattle.std.proofs.Common.{◌≡◌, ◌≢◌, ℕ, ◌+◌, ◌<◌, ◌≤◌, List, [], ◌∷◌, ◌++◌, length, map, get_or, set, take, sym, ap, ◌∙◌, arith}
use Rattle.std.specs.Prelude.{All}
use Rattle.std.specs.List.Sorted.{IsStrictlyIncreasing}
use Rattle.std.proofs.lemmas.List.{get_or-map, get_or-set_other, length-map, length-set, map-append, take_more}
use Rattle.std.proofs.lemmas.List.Kept.{AllPairs-from_increasing}
use Rattle.cmb_wave.specs.Wave.{Wave, new_wave}
use Rattle.cmb_wave.specs.Waveform.{level_at}
use Rattle.cmb_netlist.specs.Netlist.{name_of}
use Rattle.cmb_design_model.specs.Design.{Design}
use Rattle.cmb_design_model.specs.Exact.{nets_of}
use Rattle.cmb_design_model.specs.Value.{value}
use Rattle.cmb_run_text.specs.Chosen.{names_of, vcd_of}
use Rattle.cmb_run_text.specs.Collector.{Collector, IsComplete, IsExactFor, collected_level, wave_of}
use Rattle.cmb_run_text.specs.Vcd.{text_of}
use Rattle.cmb_run_text.proofs.ExactFacts.{whole_from}
use Rattle.cmb_run_text.proofs.PartFacts.{from_levels}
use Rattle.cmb_run_text.proofs.Texts.{part_text-agree}

-- the waves of the first nets were taken, and those of the others stand
pub record AreTaken (all : List Wave) (nets : List ℕ) (end : ℕ) (left chosen : List Wave) : Type 0 where
  pub count : length left ≡ length all
  pub rest : (place : ℕ) → end ≤ place → place < length nets → wave_of left (get_or nets place 0) ≡ wave_of all (get_or nets place 0)
  pub taken : chosen ≡ map (wave_of all) (take end nets)

-- one more
pub AreTaken-more : (all : List Wave) (nets : List ℕ) (i : ℕ) (left chosen : List Wave) (wave spent : Wave) → IsStrictlyIncreasing nets → i < length nets
    → wave ≡ wave_of left (get_or nets i 0) → AreTaken all nets i left chosen → AreTaken all nets (i + 1) (set left (get_or nets i 0) spent) (chosen ++ wave ∷ [])
AreTaken-more all nets i left chosen wave spent rising within is h = record {
  count = length-set left (get_or nets i 0) spent ∙ h.count;
  rest = λ place later below.
      let less : get_or nets i 0 < get_or nets place 0 = AllPairs-from_increasing nets rising i place 0 (omega arith) below in
      let ne : get_or nets place 0 ≢ get_or nets i 0 = omega arith in
      get_or-set_other left (get_or nets i 0) (get_or nets place 0) spent (new_wave 0) ne ∙ h.rest place (omega arith) below;
  taken =
      ap (λ ws. ws ++ wave ∷ []) h.taken
      ∙ ap (λ w. map (wave_of all) (take i nets) ++ w ∷ []) (is ∙ h.rest i (omega arith) within)
      ∙ sym (map-append (wave_of all) (take i nets) (get_or nets i 0 ∷ []))
      ∙ ap (map (wave_of all)) (sym (take_more nets i 0 within));
}

-- the waves that were taken tell what those of all do
pub taken_text : (design : Design) (all : List Wave) (nets : List ℕ) (horizon : ℕ)
    → text_of (names_of design.netlist nets) horizon (collected_level (map (wave_of all) nets)) ≡ text_of (names_of design.netlist nets) horizon (λ place. collected_level all (get_or nets place 0))
taken_text design all nets horizon =
    part_text-agree (names_of design.netlist nets) horizon (collected_level (map (wave_of all) nets)) (λ place. collected_level all (get_or nets place 0)) horizon
    (λ place tick within below.
    let here : place < length nets = omega (arith, within, length-map nets (name_of design.netlist)) in
    ap (λ (w : Wave). level_at w.kept w.changes tick) (get_or-map (wave_of all) nets place 0 (new_wave 0) here))

-- exact waves tell the levels of the chosen nets
pub exact_chosen : (design : Design) (collector : Collector) (nets : List ℕ) → IsExactFor design collector → IsComplete collector → All (λ net. net < nets_of design) nets
    → text_of (names_of design.netlist nets) design.horizon (λ place. collected_level collector.waves (get_or nets place 0)) ≡ vcd_of design nets
unfolding vcd_of
exact_chosen design collector nets exact complete within =
    part_text-agree (names_of design.netlist nets) design.horizon (λ place. collected_level collector.waves (get_or nets place 0)) (λ place. value design (get_or nets place 0)) design.horizon
    (λ place tick inside below.
    let here : place < length nets = omega (arith, inside, length-map nets (name_of design.netlist)) in
    from_levels design 0 collector (whole_from design 0 collector exact) (get_or nets place 0) tick (within place 0 here) (omega arith) (omega (arith, complete, exact.opened.horizon)))
