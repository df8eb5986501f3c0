-- Collectors that forget.
use Rattle.std.proofs.Common.{◌≡◌, ℕ, zero, suc, ◌+◌, ◌<◌, ◌≤◌, Bool, true, false, List, [], ◌∷◌, ◌++◌, length, set, map, take, drop, get_or, refl, sym, ap, ◌∙◌, arith, Ok, Err}
use Rattle.std.specs.Prelude.{Result, nat_lt}
use Rattle.std.specs.Result.{result_map_both}
use Rattle.std.proofs.lemmas.List.{append-nil, drop_all, drop-drop, drop-set-lt, get_or-drop, get_or-map, get_or_default, length-map, map-set, map_more, take_all, take_more_set}
use Rattle.std.proofs.lemmas.Bool.Decides.{nat_tests}
use Rattle.cmb_wave.specs.declared.level.Level.{Level}
use Rattle.cmb_wave.specs.declared.wave.WaveFault.{WaveFault}
use Rattle.cmb_wave.specs.Waveform.{IsTrace, changes_between, level_before}
use Rattle.cmb_wave.specs.Wave.{Piece, Wave, IsExactWave, new_wave, wave_from}
use Rattle.cmb_wave.specs.Calls.{taken}
use Rattle.cmb_wave.proofs.Forgets.{taken-from}
use Rattle.cmb_wave.proofs.Spans.{trace-both}
use Rattle.cmb_wave.proofs.Waveforms.{changes_between-alternates, changes_between-rises}
use Rattle.cmb_wave.proofs.Waves.{from-exact}
use Rattle.cmb_design_model.specs.Design.{Design}
use Rattle.cmb_design_model.specs.Exact.{nets_of}
use Rattle.cmb_design_model.specs.Value.{value}
use Rattle.cmb_run_text.specs.Collector.{AreInPlace, Collector, IsExactFrom, collected, forgot, least, least_clock, wave_of, with_wave}

-- ---- one wave after the other

-- waves of which those up to here are in the place of others, and the rest as they were
module _ (ws os : List Wave) (i : ℕ) (here : i < length ws) (there : i < length os) (rest : drop i ws ≡ drop i os) where
  pub at_rest : (d : Wave) → get_or ws i d ≡ wave_of os i
  at_rest d =
      let place : i + 0 ≡ i = omega arith in
      let same : get_or ws i (new_wave 0) ≡ get_or os i (new_wave 0) =
      ap (λ k. get_or ws k (new_wave 0)) (sym place) ∙ sym (get_or-drop i ws 0 (new_wave 0)) ∙ ap (λ l. get_or l 0 (new_wave 0)) rest ∙ get_or-drop i os 0 (new_wave 0) ∙ ap (λ k. get_or os k (new_wave 0)) place
      in
      get_or_default ws i d (new_wave 0) here ∙ same

  pub rest_more : (next : Wave) → drop (i + 1) (set ws i next) ≡ drop (i + 1) os
  rest_more next = drop-set-lt (i + 1) ws i next (omega arith) ∙ sym (drop-drop 1 i ws) ∙ ap (λ l. drop 1 l) rest ∙ drop-drop 1 i os

  pub done_more : (f : Wave → Wave) (next : Wave) → take i ws ≡ map f (take i os) → next ≡ f (wave_of os i) → take (i + 1) (set ws i next) ≡ map f (take (i + 1) os)
  done_more f next done is =
      take_more_set ws i next here ∙ ap (λ l. l ++ next ∷ []) done ∙ ap (λ w. map f (take i os) ++ w ∷ []) is ∙ sym (map_more f os i (new_wave 0) there)

-- the list that stands in the place of one that is as long
pub in_place : (len : ℕ) (next items : List Wave) → length next ≡ length items → length items ≡ len → take len (next ++ drop (length next) items) ≡ next
in_place len next items same long =
    let none : drop (length next) items ≡ [] = drop_all (length next) items (omega arith) in
    rw (none, append-nil next) (take_all len next (omega arith))

-- ---- exactness

-- the changes of an exact wave are a trace
pub exact_trace : (level : ℕ → Level) (horizon : ℕ) (wave : Wave) → IsExactWave level horizon wave → IsTrace wave.kept wave.base wave.changes wave.clock
exact_trace level horizon wave e =
    rw (e.changes, e.kept) (trace-both (level_before level wave.base) wave.base wave.clock (changes_between level wave.base wave.clock) e.base
    (changes_between-rises level wave.base wave.clock e.base) (changes_between-alternates level wave.base wave.clock))

-- no wave's clock is below the least one
pub least_clock-least : (horizon : ℕ) (waves : List Wave) (net : ℕ) → net < length waves → least_clock horizon waves ≤ (wave_of waves net).clock
least_clock-least horizon [] net h = absurd (omega arith)
least_clock-least horizon (wave ∷ waves) zero h = omega arith
least_clock-least horizon (wave ∷ waves) (suc net) h = omega (arith, least_clock-least horizon waves net (omega arith))

-- a net's wave after its collector forgot
pub forgot_wave : (waves : List Wave) (upto net : ℕ) → net < length waves → wave_of (map (λ (wave : Wave). wave_from wave upto) waves) net ≡ wave_from (wave_of waves net) upto
forgot_wave waves upto net h = get_or-map (λ (wave : Wave). wave_from wave upto) waves net (new_wave 0) (new_wave 0) h

-- forgetting moves no clock
pub forgot_least : (horizon : ℕ) (waves : List Wave) (upto : ℕ) → least_clock horizon (map (λ (wave : Wave). wave_from wave upto) waves) ≡ least_clock horizon waves
forgot_least horizon [] upto = refl
forgot_least horizon (wave ∷ waves) upto = omega (arith, forgot_least horizon waves upto)

pub forgot_in_place : (horizon : ℕ) (waves : List Wave) (upto : ℕ) → AreInPlace horizon waves → AreInPlace horizon (map (λ (wave : Wave). wave_from wave upto) waves)
forgot_in_place horizon waves upto all net h =
    let here : net < length waves = omega (arith, length-map waves (λ (wave : Wave). wave_from wave upto)) in
    rw (forgot_wave waves upto net here) (record { number = (all net here).number; within = (all net here).within })

pub forgot_exact : (design : Design) (from upto : ℕ) (collector : Collector) → IsExactFrom design from collector → from ≤ upto → upto ≤ least collector → IsExactFrom design upto (forgot collector upto)
forgot_exact design from upto collector exact later known = record {
  opened = record { nets = many ∙ exact.opened.nets; horizon = exact.opened.horizon };
  placed = forgot_in_place design.horizon collector.waves upto exact.placed;
  kept = λ net h. let here : net < length collector.waves = omega (arith, many) in rw (forgot_wave collector.waves upto net here) (omega arith);
  exact = λ net h.
      let here : net < length collector.waves = omega (arith, exact.opened.nets) in
      let before : (wave_of collector.waves net).base ≤ upto = omega (arith, exact.kept net here) in
      let clock : upto ≤ (wave_of collector.waves net).clock = omega (arith, least_clock-least collector.horizon collector.waves net here) in
      rw (forgot_wave collector.waves upto net here) (from-exact (value design net) design.horizon (wave_of collector.waves net) (exact.exact net h) upto before clock);
}
  where
    many : length (map (λ (wave : Wave). wave_from wave upto) collector.waves) ≡ length collector.waves
    many = length-map collector.waves (λ (wave : Wave). wave_from wave upto)

-- a collector that forgot takes and refuses the same pieces
pub forgot_taken : (design : Design) (from upto : ℕ) (collector : Collector) (piece : Piece) → IsExactFrom design from collector → upto ≤ least collector
    → collected (forgot collector upto) piece ≡ result_map_both (λ after. forgot after upto) (λ fault. fault) (collected collector piece)
forgot_taken design from upto collector piece exact known = by (nat_lt piece.net (length collector.waves)) refl
  where
    many : length (map (λ (wave : Wave). wave_from wave upto) collector.waves) ≡ length collector.waves
    many = length-map collector.waves (λ (wave : Wave). wave_from wave upto)

    joins : (result : Result Wave WaveFault)
        → with_wave (forgot collector upto) piece.net (result_map_both (λ after. wave_from after upto) (λ fault. fault) result) ≡ result_map_both (λ after. forgot after upto) (λ fault. fault) (with_wave collector piece.net result)
    joins (Ok after) = ap (λ waves. Ok (record collector { waves = waves })) (sym (map-set (λ (wave : Wave). wave_from wave upto) collector.waves piece.net after))
    joins (Err fault) = refl

    by : (b : Bool) → nat_lt piece.net (length collector.waves) ≡ b → collected (forgot collector upto) piece ≡ result_map_both (λ after. forgot after upto) (λ fault. fault) (collected collector piece)
    by false e = rw (many, e) refl
    by true e =
        let here : piece.net < length collector.waves = grind (arith, nat_tests) in
        let n : piece.net < nets_of design = omega (arith, exact.opened.nets) in
        let wave : Wave = wave_of collector.waves piece.net in
        let trace = exact_trace (value design piece.net) design.horizon wave (exact.exact piece.net n) in
        let clock : upto ≤ wave.clock = omega (arith, least_clock-least collector.horizon collector.waves piece.net here) in
        let same = forgot_wave collector.waves upto piece.net here in
        let took = taken-from wave piece upto trace clock in
        rw (many, e, same, took) (joins (taken wave piece))
