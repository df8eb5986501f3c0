-- Exact waves tell the text of the design.
use Rattle.std.proofs.Common.{◌≡◌, ◌⊎◌, inl, inr, true, false, cond, ℕ, zero, suc, ◌-◌, ◌<◌, ◌≤◌, List, [], ◌∷◌, ◌++◌, length, refl, ap, sym, ◌∙◌, arith, append_assoc}
use Rattle.std.specs.Prelude.{Option, Some, None, nat_le, nat_lt, slice_get, unwrap_or}
use Rattle.std.proofs.lemmas.Bool.{cases_lt, le-ltb, lt-ltb}
use Rattle.std.proofs.lemmas.Bool.Decides.{nat_tests}
use Rattle.std.proofs.lemmas.List.{append-nil, append_cancel_left}
use Rattle.cmb_wave.specs.declared.level.Level.{Level}
use Rattle.cmb_wave.specs.declared.level.Change.{Change}
use Rattle.cmb_wave.specs.Waveform.{IsTrace, level_at, level_before}
use Rattle.cmb_wave.specs.Wave.{IsExactWave, Wave}
use Rattle.cmb_wave.proofs.Waves.{level_at-exact}
use Rattle.cmb_design_model.specs.Design.{Design}
use Rattle.cmb_design_model.specs.Exact.{nets_of}
use Rattle.cmb_design_model.specs.Value.{value}
use Rattle.cmb_run_text.specs.Collector.{Collector, IsExactFor, IsExactFrom, collected_level, least, wave_of}
use Rattle.cmb_run_text.specs.Between.{end_line, ticks_between}
use Rattle.cmb_run_text.specs.Writer.{IsNotBefore, begun_by, done_text}
use Rattle.cmb_run_text.specs.Vcd.{header, part_text, tick_line, tick_text, ticks_text}
use Rattle.cmb_run_text.proofs.SpanFacts.{same_flat_map, ticks_text-from}
use Rattle.cmb_run_text.proofs.ExactFacts.{whole_from}
use Rattle.cmb_run_text.proofs.ForgetFacts.{exact_trace, least_clock-least}
use Rattle.cmb_run_text.proofs.Texts.{part_text-agree, tick_text-agree}
use Rattle.cmb_run_text.proofs.TraceFacts.{early_level}

-- an exact wave tells the levels from one tick before its base on
wave_levels : (level : ℕ → Level) (horizon : ℕ) (wave : Wave) → IsExactWave level horizon wave → (tick : ℕ) → wave.base ≤ suc tick → tick < wave.clock → level_at wave.kept wave.changes tick ≡ level tick
wave_levels level horizon wave exact tick a b = by (cases_lt tick wave.base)
  where
    by : (tick < wave.base) ⊎ (wave.base ≤ tick) → level_at wave.kept wave.changes tick ≡ level tick
    by (inl before) =
        let base : wave.base ≡ suc tick = omega arith in
        early_level wave.kept wave.base wave.clock tick wave.changes (exact_trace level horizon wave exact) before ∙ exact.kept ∙ ap (level_before level) base
    by (inr from) = level_at-exact level horizon wave exact tick from b

-- below the least clock exact waves tell the levels of the design, from one tick before the one from which on they are exact
pub from_levels : (design : Design) (from : ℕ) (collector : Collector) → IsExactFrom design from collector → (net tick : ℕ) → net < nets_of design → from ≤ suc tick → tick < least collector
    → collected_level collector.waves net tick ≡ value design net tick
from_levels design from collector exact net tick h a k =
    let here : net < length collector.waves = omega (arith, exact.opened.nets) in
    let known : least collector ≤ (wave_of collector.waves net).clock = least_clock-least collector.horizon collector.waves net here in
    wave_levels (value design net) design.horizon (wave_of collector.waves net) (exact.exact net h) tick (omega (arith, exact.kept net here)) (omega arith)

start_part : (design : Design) (collector : Collector) (upto : ℕ) → IsExactFrom design 0 collector → upto ≤ least collector
    → part_text design.netlist.names design.horizon (collected_level collector.waves) upto ≡ part_text design.netlist.names design.horizon (value design) upto
start_part design collector upto exact h =
    part_text-agree design.netlist.names design.horizon (collected_level collector.waves) (value design) upto (λ net tick a b. from_levels design 0 collector exact net tick a (omega arith) (omega arith))

pub exact_part : (design : Design) (collector : Collector) (upto : ℕ) → IsExactFor design collector → upto ≤ least collector
    → part_text design.netlist.names design.horizon (collected_level collector.waves) upto ≡ part_text design.netlist.names design.horizon (value design) upto
exact_part design collector upto exact h = start_part design collector upto (whole_from design 0 collector exact) h

-- the level of a trace at tick 0
pub first_told : (kept : Level) (high : ℕ) (cs : List Change) (change : Change) → IsTrace kept 0 cs high → slice_get cs 0 ≡ Some change → change.tick ≡ 0 → change.level ≡ level_at kept cs 0
first_told kept high [] change trace e h = cc
first_told kept high (c ∷ cs) change trace e h =
    let same : c ≡ change = cc in
    let zero_tick : c.tick ≡ 0 = ap (λ (d : Change). d.tick) same ∙ h in
    let now : nat_le c.tick 0 ≡ true = grind (arith, nat_tests) in
    rw now (ap (λ (d : Change). d.level) (sym same) ∙ sym (early_level c.level (suc c.tick) high 0 cs trace.3 (omega arith)))

-- the lines of tick 0 are the first
pub ticks_between-first : (nets : ℕ) (level : ℕ → ℕ → Level) (to : ℕ) → 0 < to → ticks_between nets level 0 to ≡ tick_text nets level 0 ++ ticks_between nets level 1 to
unfolding ticks_between
ticks_between-first nets level zero h = absurd (omega arith)
ticks_between-first nets level (suc to) h = let all : suc to - 0 ≡ suc to = omega arith in let rest : suc to - 1 ≡ to = omega arith in rw (all, rest) refl

pub ticks_between-none : (nets : ℕ) (level : ℕ → ℕ → Level) (from to : ℕ) → from ≡ to → ticks_between nets level from to ≡ []
unfolding ticks_between
ticks_between-none nets level from to e = let none : to - from ≡ 0 = omega arith in rw none refl

-- ---- parts of a text

-- the first part
pub part_text-first : (names : List (List ℕ)) (horizon nets : ℕ) (level : ℕ → ℕ → Level) (upto : ℕ) → nets ≡ length names → 0 < horizon
    → part_text names horizon level upto ≡ header names ++ (ticks_between nets level 0 upto ++ end_line horizon 0 upto)
unfolding part_text ticks_text
part_text-first names horizon nets level upto e h =
    let begun : nat_lt 0 horizon ≡ true = lt-ltb 0 horizon h in
    let ticks : ticks_text nets level upto ≡ ticks_between nets level 0 upto = ticks_text-from nets level 0 upto (omega arith) in
    rw (sym e, begun, ticks) (append_assoc (header names) (ticks_between nets level 0 upto) (cond (nat_lt upto horizon) [] (tick_line horizon)))

-- what a later part adds
pub part_text-more : (names : List (List ℕ)) (horizon nets : ℕ) (level : ℕ → ℕ → Level) (from upto : ℕ) → nets ≡ length names → from ≤ upto → upto ≤ horizon
    → part_text names horizon level upto ≡ part_text names horizon level from ++ (ticks_between nets level from upto ++ end_line horizon from upto)
unfolding part_text
part_text-more names horizon nets level from upto e h k = by (cases_lt from horizon)
  where
    by : (from < horizon) ⊎ (horizon ≤ from) → part_text names horizon level upto ≡ part_text names horizon level from ++ (ticks_between nets level from upto ++ end_line horizon from upto)
    by (inl open_end) =
        let begun : nat_lt from horizon ≡ true = lt-ltb from horizon open_end in
        let grown : ticks_text nets level upto ≡ ticks_text nets level from ++ ticks_between nets level from upto = ticks_text-from nets level from upto h in
        rw (sym e, begun, grown) (simp (append_assoc, append-nil))
    by (inr ended) =
        let closed : nat_lt from horizon ≡ false = le-ltb from horizon ended in
        let same : upto ≡ from = omega arith in
        let none : ticks_between nets level from from ≡ [] = ticks_between-none nets level from from refl in
        rw (same, none, closed) (sym (append-nil (header names ++ ticks_text (length names) level from ++ tick_line horizon)))

-- what a writer adds to the text that it gave
pub part_goes_on : (design : Design) (horizon nets : ℕ) (level : ℕ → ℕ → Level) (done : Option ℕ) (upto : ℕ) → horizon ≡ design.horizon → nets ≡ nets_of design → 0 < design.horizon → IsNotBefore done upto → upto ≤ design.horizon
    → done_text design level (Some upto) ≡ done_text design level done ++ (begun_by design done ++ (ticks_between nets level (unwrap_or done 0) upto ++ end_line horizon (unwrap_or done 0) upto))
part_goes_on design horizon nets level None upto s e h later k = rw s (part_text-first design.netlist.names design.horizon nets level upto e h)
part_goes_on design horizon nets level (Some done) upto s e h later k = rw s (part_text-more design.netlist.names design.horizon nets level done upto e later k)

ticks_between-agree : (f g : ℕ → ℕ → Level) (nets from to : ℕ) → from ≤ to → ((net tick : ℕ) → net < nets → from ≤ suc tick → tick < to → f net tick ≡ g net tick) → ticks_between nets f from to ≡ ticks_between nets g from to
unfolding ticks_between
ticks_between-agree f g nets from to h agree = same_flat_map (tick_text nets f) (tick_text nets g) from (to - from) (λ tick low top. tick_text-agree f g nets from to agree tick low (omega arith))

-- what a part adds depends on the levels from one tick before it on
pub part_text-onward : (names : List (List ℕ)) (horizon : ℕ) (f g : ℕ → ℕ → Level) (from to : ℕ) (rest : List ℕ) → from ≤ to → to ≤ horizon
    → ((net tick : ℕ) → net < length names → from ≤ suc tick → tick < to → f net tick ≡ g net tick)
    → part_text names horizon f to ≡ part_text names horizon f from ++ rest → part_text names horizon g to ≡ part_text names horizon g from ++ rest
part_text-onward names horizon f g from to rest h k agree e =
    let nets : ℕ = length names in
    let more = part_text-more names horizon nets f from to refl h k in
    let rests : ticks_between nets f from to ++ end_line horizon from to ≡ rest = append_cancel_left (part_text names horizon f from) _ _ (sym more ∙ e) in
    part_text-more names horizon nets g from to refl h k
    ∙ ap (λ t. part_text names horizon g from ++ (t ++ end_line horizon from to)) (sym (ticks_between-agree f g nets from to h agree))
    ∙ ap (λ t. part_text names horizon g from ++ t) rests

-- what is new of a text is that of the design, where the collector is exact from the tick on up to which the text was given
pub exact_more : (design : Design) (collector : Collector) (done : Option ℕ) (part : List ℕ) → IsExactFrom design (unwrap_or done 0) collector → IsNotBefore done (least collector) → least collector ≤ design.horizon
    → done_text design (collected_level collector.waves) (Some (least collector)) ≡ done_text design (collected_level collector.waves) done ++ part
    → done_text design (value design) (Some (least collector)) ≡ done_text design (value design) done ++ part
exact_more design collector None part exact later within e = sym (start_part design collector (least collector) exact (omega arith)) ∙ e
exact_more design collector (Some done) part exact later within e =
    part_text-onward design.netlist.names design.horizon (collected_level collector.waves) (value design) done (least collector) part later within (λ net tick a b k. from_levels design done collector exact net tick a b k) e

-- a text written in turn: the declarations, then all ticks and the last line
pub written_whole : (names read : List (List ℕ)) (horizon end : ℕ) (waves told : List Wave) (start first all : List ℕ)
    → read ≡ names → end ≡ horizon → told ≡ waves → start ≡ [] → length waves ≡ length names → 0 < end
    → first ≡ start ++ header read → all ≡ first ++ (ticks_between (length told) (collected_level told) 0 end ++ end_line end 0 end)
    → all ≡ part_text names horizon (collected_level waves) horizon
written_whole names read horizon end waves told start first all n h w s e p a b =
    let a' : first ≡ header names = rw (s, n) at a in
    let b' : all ≡ first ++ (ticks_between (length waves) (collected_level waves) 0 horizon ++ end_line horizon 0 horizon) = rw (w, h) at b in
    rw (b', a') (sym (part_text-first names horizon (length waves) (collected_level waves) horizon e (omega arith)))

-- a part written in turn: what it begins with, then the ticks and the last line
pub written_part : (design : Design) (horizon from last upto : ℕ) (waves told : List Wave) (done : Option ℕ) (begun all : List ℕ)
    → horizon ≡ design.horizon → from ≡ unwrap_or done 0 → last ≡ upto → told ≡ waves → length waves ≡ nets_of design → 0 < design.horizon → IsNotBefore done upto → upto ≤ design.horizon
    → begun ≡ begun_by design done → all ≡ begun ++ (ticks_between (length told) (collected_level told) from last ++ end_line horizon from last)
    → done_text design (collected_level waves) (Some upto) ≡ done_text design (collected_level waves) done ++ all
written_part design horizon from last upto waves told done begun all h f l w n p later k b a =
    let a' : all ≡ begun_by design done ++ (ticks_between (length waves) (collected_level waves) (unwrap_or done 0) upto ++ end_line horizon (unwrap_or done 0) upto) = rw (w, f, l, b) at a in
    rw a' (part_goes_on design horizon (length waves) (collected_level waves) done upto h n p later k)
