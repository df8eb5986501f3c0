-- What a design's tables say when they are asked.
use Rattle.std.proofs.Common.{◌≡◌, ◌≤◌, ◌<◌, ℕ, suc, List, [], ◌∷◌, Option, Some, None, length, get_or, map, refl, sym, ap, arith, ◌∙◌}
use Rattle.std.specs.Prelude.{find, option_map, unwrap_or}
use Rattle.std.proofs.lemmas.List.{length-map}
use Rattle.std.proofs.lemmas.List.FromFn.{get_or-map-range_with_len, length-map-range_with_len}
use Rattle.cmb_wave.specs.declared.level.Change.{Change}
use Rattle.cmb_wave.specs.declared.level.Level.{Level}
use Rattle.cmb_wave.specs.Waveform.{Rises, changes_between}
use Rattle.cmb_wave.proofs.Spans.{RisesWithin}
use Rattle.cmb_netlist.specs.Netlist.{Netlist, number_of}
use Rattle.cmb_design_model.specs.Inner.RowLevels.{changes_in}
use Rattle.cmb_design_model.specs.declared.row_levels.RowLevels.{RowLevels}
use Rattle.cmb_design_model.specs.Design.{Design}
use Rattle.cmb_design_model.specs.Nets.{is_at}
use Rattle.cmb_design_model.specs.Inner.Stimuli.{stimulus_changes}
use Rattle.cmb_design_model.specs.Inner.Tables.{clock_place, initial_place, place_at}
use Rattle.cmb_design_model.specs.Timing.{clock_of_row, level_of_row}
use Rattle.cmb_design_model.specs.Timing.{clock_of, common_clock, initial_level, level_by, row_level}
use Rattle.cmb_design_model.specs.declared.rows.Clock.{Clock}
use Rattle.cmb_design_model.specs.declared.rows.ClockRow.{ClockRow}
use Rattle.cmb_design_model.specs.declared.rows.StimulusRow.{StimulusRow}
use Rattle.cmb_design_model.proofs.CheckFacts.{get_some}
use Rattle.cmb_design_model.proofs.StimulusFacts.{map_at}

pub clock_read : (design : Design) (net : ℕ) (own : Option Clock) (common : Clock) → own ≡ place_at (clock_place design.netlist) clock_of_row design.clocks net
    → common ≡ common_clock design.clock → unwrap_or own common ≡ clock_of design net
unfolding clock_of place_at
clock_read design net own common e f = rw (e, f) refl

pub level_read : (design : Design) (net : ℕ) (own : Option Level) → own ≡ place_at (initial_place design.netlist) level_of_row design.initial net
    → unwrap_or own design.init ≡ initial_level design net
unfolding initial_level place_at
level_read design net own e = rw e refl

positive : (o : Option ClockRow) (common : Option Clock) → 1 ≤ (unwrap_or (option_map clock_of_row o) (common_clock common)).period
positive (Some row) common = omega arith
positive None None = omega arith
positive None (Some clock) = omega arith

pub clock_of-positive : (design : Design) (net : ℕ) → 1 ≤ (clock_of design net).period
unfolding clock_of
clock_of-positive design net = positive (find (λ row. is_at (number_of design.netlist row.net) net) design.clocks) design.clock

pub length-changes : (netlist : Netlist) (rows : List StimulusRow) (horizon : ℕ) (lists : List RowLevels) → map changes_in lists ≡ stimulus_changes netlist rows horizon
    → length lists ≡ length netlist.names
unfolding stimulus_changes
length-changes netlist rows horizon lists h =
    sym (length-map lists changes_in) ∙ ap length h ∙ length-map-range_with_len (λ net. changes_between (level_by (row_level netlist rows net)) 0 horizon) 0 (length netlist.names)

pub changes-at : (netlist : Netlist) (rows : List StimulusRow) (horizon : ℕ) (lists : List RowLevels) (net : ℕ) (v : RowLevels)
    → map changes_in lists ≡ stimulus_changes netlist rows horizon → net < length netlist.names → v ≡ get_or lists net v
    → changes_in v ≡ changes_between (level_by (row_level netlist rows net)) 0 horizon
unfolding stimulus_changes
changes-at netlist rows horizon lists net v h b e =
    let n : net < length lists = omega (arith, length-changes netlist rows horizon lists h) in
    sym (map_at changes_in lists net v [] (get_some lists net v n e)) ∙ ap (λ t. get_or t net []) h
    ∙ get_or-map-range_with_len (λ k. changes_between (level_by (row_level netlist rows k)) 0 horizon) 0 (length netlist.names) net net [] b (omega arith)

pub rises-within : (from to : ℕ) (cs : List Change) → RisesWithin from to cs → Rises from cs
rises-within from to [] r = tt
rises-within from to (c ∷ cs) r = (r.0, rises-within (suc c.tick) to cs r.2)
