-- Exact collectors stay exact.
use Rattle.std.proofs.Common.{◌≡◌, ◌≢◌, ℕ, zero, suc, ◌+◌, ◌<◌, ◌≤◌, List, [], ◌∷◌, Bool, true, false, ◌⊎◌, inl, inr, length, set, map, refl, ap, sym, ◌∙◌, subst, arith, Ok, Err, None, length-set, get_or-set_same, get_or-set_other}
use Rattle.std.specs.Prelude.{nat_le, nat_lt, Result}
use Rattle.std.specs.List.{range_with_len}
use Rattle.std.proofs.lemmas.Bool.{cases_eq}
use Rattle.std.proofs.lemmas.Bool.Decides.{nat_tests}
use Rattle.std.proofs.lemmas.List.FromFn.{length-map-range_with_len, get_or-map-range_with_len}
use Rattle.cmb_wave.specs.declared.level.Change.{Change}
use Rattle.cmb_wave.specs.declared.level.Level.{Level}
use Rattle.cmb_wave.specs.declared.wave.WaveFault.{WaveFault}
use Rattle.cmb_wave.specs.declared.wave.WaveFault.TheVariants as wave_fault
use Rattle.cmb_wave.specs.Waveform.{at_or_after, changes_between, clash, count_below, last_level, level_before}
use Rattle.cmb_wave.specs.Wave.{Piece, Wave, IsExactPiece, IsExactWave, cut_of, new_wave, wave_with_piece}
use Rattle.cmb_wave.specs.Calls.{taken}
use Rattle.cmb_wave.proofs.Spans.{clash-none}
use Rattle.cmb_wave.proofs.Waveforms.{changes_between-same}
use Rattle.cmb_wave.proofs.Waves.{added-alternates, with_piece-exact}
use Rattle.cmb_design_model.specs.Design.{Design}
use Rattle.cmb_design_model.specs.Exact.{IsExactIn, nets_of}
use Rattle.cmb_design_model.specs.Plain.{whole_wave, whole_waves}
use Rattle.cmb_design_model.specs.Value.{value}
use Rattle.cmb_run_text.specs.declared.fault.CollectFault.{CollectFault}
use Rattle.cmb_run_text.specs.declared.fault.CollectFault.TheVariants.{Clash}
use Rattle.cmb_run_text.specs.Collector.{Collector, IsComplete, IsExactFor, IsExactFrom, IsInPlace, adopted, collected, least_clock, new_collector, new_waves, wave_of}
use Rattle.cmb_run_text.specs.Faults.{collect_fault}
use Rattle.cmb_run_text.proofs.CollectorFacts.{collected_in_place, new_waves_collected}

-- ---- new collectors

none_exact : (level : ℕ → Level) (horizon net : ℕ) → IsExactWave level horizon (new_wave net)
unfolding count_below
none_exact level horizon net = record {
  base = omega arith;
  within = omega arith;
  count = ap length (sym (changes_between-same level 0));
  changes = sym (changes_between-same level 0);
  kept = refl;
}

pub new_exact : (design : Design) → IsExactFor design (new_collector design)
new_exact design = record {
  opened = record { nets = length-map-range_with_len new_wave 0 (nets_of design); horizon = refl };
  collected = new_waves_collected design.horizon (nets_of design);
  exact = λ net h.
      let here : wave_of (new_waves (nets_of design)) net ≡ new_wave net = get_or-map-range_with_len new_wave 0 (nets_of design) net net (new_wave 0) h (omega arith) in
      subst (IsExactWave (value design net) design.horizon) (sym here) (none_exact (value design net) design.horizon net);
}

-- ---- exact from a tick on

-- what has forgotten nothing is exact from each tick on
pub whole_from : (design : Design) (from : ℕ) (collector : Collector) → IsExactFor design collector → IsExactFrom design from collector
whole_from design from collector exact = record {
  opened = exact.opened;
  placed = collected_in_place design.horizon collector.waves exact.collected;
  kept = λ net h. omega (arith, (exact.collected net h).base);
  exact = exact.exact;
}

-- and what is exact from tick 0 on has forgotten nothing
pub from_whole : (design : Design) (collector : Collector) → IsExactFrom design 0 collector → IsExactFor design collector
from_whole design collector exact = record {
  opened = exact.opened;
  collected = λ net h. record { number = (exact.placed net h).number; base = omega (arith, exact.kept net h); within = (exact.placed net h).within };
  exact = exact.exact;
}

-- ---- taking an exact piece

-- what an exact wave makes of an exact piece: it goes on by it, or has it already, or misses something before it
module _ (level : ℕ → Level) (horizon : ℕ) (wave : Wave) (piece : Piece) (exact : IsExactWave level horizon wave) (p : IsExactPiece level horizon piece) where
  no_clash : piece.from ≤ wave.clock → wave.clock ≤ piece.to → clash (last_level wave.kept wave.changes) (at_or_after wave.clock piece.changes) ≡ None
  no_clash a b = clash-none _ _ (added-alternates level horizon wave exact piece p a b)

  pub taken_exact : (next : Wave) → taken wave piece ≡ Ok next → IsExactWave level horizon next × (next.net ≡ wave.net) × (next.base ≡ wave.base)
  taken_exact next e = by (nat_lt wave.clock piece.from) refl (nat_le piece.to wave.clock) refl
    where
      by : (b : Bool) → nat_lt wave.clock piece.from ≡ b → (d : Bool) → nat_le piece.to wave.clock ≡ d → IsExactWave level horizon next × (next.net ≡ wave.net) × (next.base ≡ wave.base)
      by true f d g = let bad : ◌≡◌ {A = Result Wave WaveFault} (Err (wave_fault.Gap wave.clock)) (Ok next) = rw f at e in cc
      by false f true g = let bad : ◌≡◌ {A = Result Wave WaveFault} (Err (wave_fault.Old wave.clock)) (Ok next) = rw (f, g) at e in cc
      by false f false g =
          let a : piece.from ≤ wave.clock = grind (arith, nat_tests) in
          let b : wave.clock ≤ piece.to = grind (arith, nat_tests) in
          let good : ◌≡◌ {A = Result Wave WaveFault} (Ok (wave_with_piece wave piece)) (Ok next) = rw (f, g, no_clash a b) at e in
          let same : wave_with_piece wave piece ≡ next = cc in
          (subst (IsExactWave level horizon) same (with_piece-exact level horizon wave exact piece p a b), ap (λ (w : Wave). w.net) (sym same), ap (λ (w : Wave). w.base) (sym same))

  pub taken_clash : (tick : ℕ) → taken wave piece ≢ Err (wave_fault.Clash tick)
  taken_clash tick e = by (nat_lt wave.clock piece.from) refl (nat_le piece.to wave.clock) refl
    where
      by : (b : Bool) → nat_lt wave.clock piece.from ≡ b → (d : Bool) → nat_le piece.to wave.clock ≡ d → ⊥
      by true f d g = let bad : ◌≡◌ {A = Result Wave WaveFault} (Err (wave_fault.Gap wave.clock)) (Err (wave_fault.Clash tick)) = rw f at e in cc
      by false f true g = let bad : ◌≡◌ {A = Result Wave WaveFault} (Err (wave_fault.Old wave.clock)) (Err (wave_fault.Clash tick)) = rw (f, g) at e in cc
      by false f false g =
          let a : piece.from ≤ wave.clock = grind (arith, nat_tests) in
          let b : wave.clock ≤ piece.to = grind (arith, nat_tests) in
          let bad : ◌≡◌ {A = Result Wave WaveFault} (Ok (wave_with_piece wave piece)) (Err (wave_fault.Clash tick)) = rw (f, g, no_clash a b) at e in cc

-- one wave goes on, and the others stay
set_exact : (design : Design) (from : ℕ) (collector : Collector) (net : ℕ) (next : Wave) → IsExactFrom design from collector → net < nets_of design
    → IsExactWave (value design net) design.horizon next → next.net ≡ net → next.base ≤ from → IsExactFrom design from (record collector { waves = set collector.waves net next })
set_exact design from collector net next exact h good number base = record {
  opened = record { nets = length-set collector.waves net next ∙ exact.opened.nets; horizon = exact.opened.horizon };
  placed = λ k a. let b : k < length collector.waves = rw length-set at a in one k b (cases_eq k net);
  kept = λ k a. let b : k < length collector.waves = rw length-set at a in begins k b (cases_eq k net);
  exact = λ k a. whole k a (cases_eq k net);
}
  where
    here : net < length collector.waves
    here = omega (arith, exact.opened.nets)

    one : (k : ℕ) → k < length collector.waves → (k ≡ net) ⊎ (k ≡ net → ⊥) → IsInPlace design.horizon k (wave_of (set collector.waves net next) k)
    one k a (inl e) = rw (e, get_or-set_same collector.waves net next (new_wave 0) here) (record { number = number; within = good.within })
    one k a (inr ne) = rw (get_or-set_other collector.waves net k next (new_wave 0) ne) (exact.placed k a)

    begins : (k : ℕ) → k < length collector.waves → (k ≡ net) ⊎ (k ≡ net → ⊥) → (wave_of (set collector.waves net next) k).base ≤ from
    begins k a (inl e) = rw (e, get_or-set_same collector.waves net next (new_wave 0) here) base
    begins k a (inr ne) = rw (get_or-set_other collector.waves net k next (new_wave 0) ne) (exact.kept k a)

    whole : (k : ℕ) → k < nets_of design → (k ≡ net) ⊎ (k ≡ net → ⊥) → IsExactWave (value design k) design.horizon (wave_of (set collector.waves net next) k)
    whole k a (inl e) = rw (e, get_or-set_same collector.waves net next (new_wave 0) here) good
    whole k a (inr ne) = rw (get_or-set_other collector.waves net k next (new_wave 0) ne) (exact.exact k a)

module _ (design : Design) (from : ℕ) (collector : Collector) (piece : Piece) (exact : IsExactFrom design from collector) (p : IsExactIn design piece) where
  known : nat_lt piece.net (length collector.waves) ≡ true
  known = let n = exact.opened.nets in let h = p.net in grind (arith, nat_tests)

  place : piece.net < length collector.waves
  place = omega (arith, exact.opened.nets, p.net)

  wave : Wave
  wave = wave_of collector.waves piece.net

  pub collected_from : (next : Collector) → collected collector piece ≡ Ok next → IsExactFrom design from next
  unfolding wave
  collected_from next e = by (taken (wave_of collector.waves piece.net) piece) refl
    where
      by : (r : Result Wave WaveFault) → taken (wave_of collector.waves piece.net) piece ≡ r → IsExactFrom design from next
      by (Ok after) f =
          let good : ◌≡◌ {A = Result Collector CollectFault} (Ok (record collector { waves = set collector.waves piece.net after })) (Ok next) = rw (known, f) at e in
          let same : record collector { waves = set collector.waves piece.net after } ≡ next = cc in
          let t = taken_exact (value design piece.net) design.horizon (wave_of collector.waves piece.net) piece (exact.exact piece.net p.net) p.exact after f in
          subst (IsExactFrom design from) same (set_exact design from collector piece.net after exact p.net t.0 (t.1 ∙ (exact.placed piece.net place).number) (omega (arith, t.2, exact.kept piece.net place)))
      by (Err fault) f = let bad : ◌≡◌ {A = Result Collector CollectFault} (Err (collect_fault fault)) (Ok next) = rw (known, f) at e in cc

  pub collected_clash : (tick : ℕ) → collected collector piece ≢ Err (Clash tick)
  collected_clash tick e = by (taken (wave_of collector.waves piece.net) piece) refl
    where
      by : (r : Result Wave WaveFault) → taken (wave_of collector.waves piece.net) piece ≡ r → ⊥
      by (Ok after) f = let bad : ◌≡◌ {A = Result Collector CollectFault} (Ok (record collector { waves = set collector.waves piece.net after })) (Err (Clash tick)) = rw (known, f) at e in cc
      by (Err (wave_fault.Gap clock)) f = let bad : ◌≡◌ {A = Result Collector CollectFault} (Err (collect_fault (wave_fault.Gap clock))) (Err (Clash tick)) = rw (known, f) at e in cc
      by (Err (wave_fault.Old clock)) f = let bad : ◌≡◌ {A = Result Collector CollectFault} (Err (collect_fault (wave_fault.Old clock))) (Err (Clash tick)) = rw (known, f) at e in cc
      by (Err wave_fault.Memory) f = let bad : ◌≡◌ {A = Result Collector CollectFault} (Err (collect_fault wave_fault.Memory)) (Err (Clash tick)) = rw (known, f) at e in cc
      by (Err (wave_fault.Clash other)) f = taken_clash (value design piece.net) design.horizon (wave_of collector.waves piece.net) piece (exact.exact piece.net p.net) p.exact other f

pub collected_exact : (design : Design) (collector next : Collector) (piece : Piece) → IsExactFor design collector → IsExactIn design piece → collected collector piece ≡ Ok next → IsExactFor design next
collected_exact design collector next piece exact p e = from_whole design next (collected_from design 0 collector piece (whole_from design 0 collector exact) p next e)

-- ---- taking an exact wave over

-- all changes stand at or after tick 0
all_after : (cs : List Change) → at_or_after 0 cs ≡ cs
all_after [] = refl
all_after (c ∷ cs) =
    let low : 0 ≤ c.tick = omega arith in
    let e : nat_le 0 c.tick ≡ true = grind (arith, nat_tests) in
    rw (e, all_after cs) refl

-- exact waves of a net that are known as far are one
same_wave : (level : ℕ → Level) (horizon : ℕ) (wave other : Wave) → IsExactWave level horizon wave → IsExactWave level horizon other → wave.net ≡ other.net → wave.base ≡ other.base → wave.clock ≡ other.clock → wave ≡ other
same_wave level horizon wave other exact good net base clock =
    let count : wave.count ≡ other.count = exact.count ∙ ap (count_below level) clock ∙ sym good.count in
    let kept : wave.kept ≡ other.kept = exact.kept ∙ ap (level_before level) base ∙ sym good.kept in
    let changes : wave.changes ≡ other.changes = exact.changes ∙ ap (λ from. changes_between level from wave.clock) base ∙ ap (changes_between level other.base) clock ∙ sym good.changes in
    λ i. record { net = net i; base = base i; clock = clock i; count = count i; kept = kept i; changes = changes i }

-- an exact wave that takes the whole of one that is known further is that one
whole_taken : (level : ℕ → Level) (horizon : ℕ) (wave next : Wave) → IsExactWave level horizon wave → IsExactWave level horizon next → wave.clock < next.clock → wave.net ≡ next.net → wave.base ≡ 0 → next.base ≡ 0
    → taken wave (cut_of next 0) ≡ Ok next
whole_taken level horizon wave next exact good later net base start =
    let piece : IsExactPiece level horizon (cut_of next 0) = record {
      not_empty = omega arith;
      within = good.within;
      changes = all_after next.changes ∙ good.changes ∙ ap (λ from. changes_between level from next.clock) start;
    } in
    let low : 0 ≤ wave.clock = omega arith in
    let high : wave.clock ≤ next.clock = omega arith in
    let e : nat_lt wave.clock 0 ≡ false = grind (arith, nat_tests) in
    let f : nat_le next.clock wave.clock ≡ false = grind (arith, nat_tests) in
    let none = no_clash level horizon wave (cut_of next 0) exact piece low high in
    let joined : wave_with_piece wave (cut_of next 0) ≡ next = same_wave level horizon _ next (with_piece-exact level horizon wave exact (cut_of next 0) piece low high) good net (base ∙ sym start) refl in
    rw (e, f, none) (ap Ok joined)

module _ (design : Design) (collector : Collector) (wave : Wave) (exact : IsExactFor design collector) (h : wave.net < length collector.waves) (start : wave.base ≡ 0) (good : IsExactWave (value design wave.net) design.horizon wave) where
  pub adopted_exact : IsExactFor design (adopted collector wave)
  adopted_exact = by (nat_lt (wave_of collector.waves wave.net).clock wave.clock) refl
    where
      by : (b : Bool) → nat_lt (wave_of collector.waves wave.net).clock wave.clock ≡ b → IsExactFor design (adopted collector wave)
      by true e = rw e (from_whole design _ (set_exact design 0 collector wave.net wave (whole_from design 0 collector exact) (omega (arith, exact.opened.nets)) good refl (omega (arith, start))))
      by false e = rw e exact

  pub adopted_taken : (wave_of collector.waves wave.net).clock < wave.clock → collected collector (cut_of wave 0) ≡ Ok (adopted collector wave)
  adopted_taken later =
      let e : nat_lt wave.net (length collector.waves) ≡ true = grind (arith, nat_tests) in
      let f : nat_lt (wave_of collector.waves wave.net).clock wave.clock ≡ true = grind (arith, nat_tests) in
      let n : wave.net < nets_of design = omega (arith, exact.opened.nets) in
      let own = exact.collected wave.net h in
      rw (e, f, whole_taken (value design wave.net) design.horizon (wave_of collector.waves wave.net) wave (exact.exact wave.net n) good later own.number own.base start) refl

-- ---- whole waves

whole_exact : (design : Design) (net : ℕ) → IsExactWave (value design net) design.horizon (whole_wave design net)
whole_exact design net = record { base = omega arith; within = omega arith; count = refl; changes = refl; kept = refl }

pub whole_waves_exact : (design : Design) → IsExactFor design (record { waves = whole_waves design; horizon = design.horizon })
whole_waves_exact design = record {
  opened = record { nets = many; horizon = refl };
  collected = λ net h. rw (here net (rw many at h)) (record { number = refl; base = refl; within = omega arith });
  exact = λ net h. subst (IsExactWave (value design net) design.horizon) (sym (here net h)) (whole_exact design net);
}
  where
    many : length (whole_waves design) ≡ nets_of design
    many = length-map-range_with_len (whole_wave design) 0 (nets_of design)

    here : (net : ℕ) → net < nets_of design → wave_of (whole_waves design) net ≡ whole_wave design net
    here net h = get_or-map-range_with_len (whole_wave design) 0 (nets_of design) net net (new_wave 0) h (omega arith)

whole_least : (design : Design) (net count : ℕ) → least_clock design.horizon (map (whole_wave design) (range_with_len net count)) ≡ design.horizon
whole_least design net zero = refl
whole_least design net (suc count) = omega (arith, whole_least design (net + 1) count)

pub whole_waves_complete : (design : Design) → IsComplete (record { waves = whole_waves design; horizon = design.horizon })
whole_waves_complete design = whole_least design 0 (nets_of design)
