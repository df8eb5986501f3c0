-- A step looks only at what is known: below the reach, the levels that the waves tell give the net's own value.
use Rattle.std.proofs.Common.{length, ◌≡◌, ℕ, zero, suc, ◌+◌, ◌-◌, ◌<◌, ◌≤◌, Bool, true, false, cond, eqb, List, [], ◌∷◌, ◌⊎◌, inl, inr, Option, Some, None, refl, ap, sym, ◌∙◌, arith, ltb}
use Rattle.std.specs.Prelude.{unwrap_or}
use Rattle.std.specs.List.{AllByRecursion}
use Rattle.std.proofs.lemmas.Bool.{lt-ltb, le-ltb, eqb-true, cond_both, cases_lt}
use Rattle.cmb_wave.specs.declared.level.Level.{Level}
use Rattle.cmb_wave.specs.Waveform.{level_at, level_before, changes_between, count_below}
use Rattle.cmb_wave.specs.Wave.{Wave, IsExactWave}
use Rattle.cmb_wave.proofs.Waveforms.{changes_between-agree, changes_between-same}
use Rattle.cmb_wave.proofs.Waves.{level_at-exact}
use Rattle.cmb_netlist.specs.declared.netlist.Driver.{Driver}
use Rattle.cmb_netlist.specs.declared.netlist.Driver.TheVariants.{Input, Gate, Flop}
use Rattle.cmb_netlist.specs.Netlist.{driver_of}
use Rattle.cmb_design_model.specs.Design.{Design}
use Rattle.cmb_design_model.specs.Exact.{nets_of, IsExactIn, IsExactWaveIn}
use Rattle.cmb_design_model.specs.Gate.{gate}
use Rattle.cmb_design_model.specs.Timing.{delay, clock_of, IsSample, last_sample, next_sample}
use Rattle.cmb_design_model.specs.declared.rows.Clock.{Clock}
use Rattle.cmb_design_model.specs.Value.{delayed, pin_levels, flop_level, driven_level, value}
use Rattle.cmb_design_model.proofs.AskFacts.{clock_of-positive}
use Rattle.cmb_design_model.proofs.SampleFacts.{last_sample-found, next_sample-least}
use Rattle.cmb_design_model.proofs.ValueFacts.{delayed-same, flop_level-same, value-is}
use Rattle.cmb_core_cluster.specs.Reach.{pins_reach, driver_reach, flop_need, AreKept, IsKept}
use Rattle.cmb_core_cluster.specs.Step.{told_level, told_upto, told_from, wave_at, continued, step_reach, step_piece}
use Rattle.cmb_core_cluster.proofs.ReachFacts.{driver_reach-within}

delayed-known : (f g : ℕ → Level) (base clock from ticks tick : ℕ) → ((t : ℕ) → base ≤ t → t < clock → f t ≡ g t) → base ≤ from - ticks → from ≤ tick → tick < clock + ticks → delayed f ticks tick ≡ delayed g ticks tick
delayed-known f g base clock from ticks tick same kept after known = delayed-same f g ticks tick (λ l. same (tick - ticks) (omega arith) (omega arith))

-- a sample tick at or after another tick's last one is at or after what that tick needs
need-at_most : (clock : Clock) → 1 ≤ clock.period → (early late sample : ℕ) → early ≤ late → last_sample clock late ≡ Some sample → unwrap_or (last_sample clock early) 0 ≤ sample
need-at_most clock positive early late sample before is = go (last_sample clock early) refl
  where
    go : (last : Option ℕ) → last_sample clock early ≡ last → unwrap_or last 0 ≤ sample
    go None none = omega arith
    go (Some old) some =
        let found = last_sample-found clock positive early old some in
        (last_sample-found clock positive late sample is).2 old found.0 (omega (arith, found.1))

module _ (design : Design) (f g : ℕ → ℕ → Level) (base clock : ℕ → ℕ) (same : (m t : ℕ) → base m ≤ t → t < clock m → f m t ≡ g m t) (net from tick : ℕ) (after : from ≤ tick) where
  pin_levels-known : (most pin : ℕ) (operands : List ℕ) → AreKept design base net from pin operands → tick < pins_reach design clock net most pin operands → pin_levels design f net tick pin operands ≡ pin_levels design g net tick pin operands
  pin_levels-known most pin [] kept known = refl
  pin_levels-known most pin (operand ∷ operands) kept known =
      let here : delayed (f operand) (delay design net pin) tick ≡ delayed (g operand) (delay design net pin) tick = delayed-known (f operand) (g operand) (base operand) (clock operand) from (delay design net pin) tick (same operand) kept.0 after (omega arith) in
      rw (here, pin_levels-known most (suc pin) operands kept.1 (omega arith))

  flop_level-known : (source : ℕ) → base source ≤ flop_need design net from → tick < next_sample (clock_of design net) (clock source) + delay design net 1 → flop_level design (f source) net tick ≡ flop_level design (g source) net tick
  flop_level-known source kept known =
      flop_level-same design (f source) (g source) net tick (λ sample late is.
      let found = last_sample-found clock_here positive (tick - delay design net 1) sample is in
      let needed : flop_need design net from ≤ sample = need-at_most clock_here positive (from - delay design net 1) (tick - delay design net 1) sample (omega arith) is in
      same source sample (omega arith) (below sample late found.0 found.1 (cases_lt sample (clock source))))
    where
      clock_here : Clock
      clock_here = clock_of design net

      positive : 1 ≤ clock_here.period
      positive = clock_of-positive design net

      below : (sample : ℕ) → delay design net 1 ≤ tick → IsSample clock_here sample → sample ≤ tick - delay design net 1 → (sample < clock source) ⊎ (clock source ≤ sample) → sample < clock source
      below sample late is at_most (inl less) = less
      below sample late is at_most (inr more) = absurd (omega (arith, next_sample-least clock_here positive (clock source) sample is more))

  pub driven_level-known : (driver : Driver) → IsKept design base net from driver → tick < driver_reach design clock net driver → driven_level design f net tick driver ≡ driven_level design g net tick driver
  driven_level-known Input kept known = refl
  driven_level-known (Gate kind operands) kept known = ap (gate kind) (pin_levels-known design.horizon 1 operands kept known)
  driven_level-known (Flop source) kept known = flop_level-known source kept (omega arith)

-- ---- a step over a cluster's own waves

-- the wave of a net among exact waves is one of that net, and exact
pub wave_at-net : (waves : List Wave) (net : ℕ) → (wave_at waves net).net ≡ net
wave_at-net [] net = refl
wave_at-net (wave ∷ waves) net = go (eqb wave.net net) refl (wave_at-net waves net)
  where
    go : (b : Bool) → eqb wave.net net ≡ b → (wave_at waves net).net ≡ net → (cond b wave (wave_at waves net)).net ≡ net
    go true e rest = eqb-true wave.net net e
    go false e rest = rest

pub wave_at-exact : (design : Design) (waves : List Wave) → AllByRecursion (IsExactWaveIn design) waves → (net : ℕ) → net < nets_of design → IsExactWaveIn design (wave_at waves net)
unfolding count_below
wave_at-exact design [] all net there = record {
  net = there;
  exact = record {
    base = omega arith;
    within = omega arith;
    count = sym (ap length (changes_between-same (value design net) 0));
    changes = sym (changes_between-same (value design net) 0);
    kept = refl;
  };
}
wave_at-exact design (wave ∷ waves) all net there =
    cond_both (eqb wave.net net) wave (wave_at waves net) (IsExactWaveIn design) (λ yes. all.0) (λ no. wave_at-exact design waves all.1 net there)

-- what exact waves tell is so
told_level-exact : (design : Design) (waves : List Wave) → AllByRecursion (IsExactWaveIn design) waves → (net tick : ℕ) → told_from waves net ≤ tick → tick < told_upto waves net → told_level waves net tick ≡ value design net tick
told_level-exact design [] all net tick a b = absurd (omega arith)
told_level-exact design (wave ∷ waves) all net tick a b = go (eqb wave.net net) refl (told_level-exact design waves all.1 net tick) a b
  where
    go : (b : Bool) → eqb wave.net net ≡ b → (told_from waves net ≤ tick → tick < told_upto waves net → told_level waves net tick ≡ value design net tick) → (cond b wave (wave_at waves net)).base ≤ tick → tick < (cond b wave (wave_at waves net)).clock → level_at (cond b wave (wave_at waves net)).kept (cond b wave (wave_at waves net)).changes tick ≡ value design net tick
    go true e rest low high = level_at-exact (value design wave.net) design.horizon wave all.0.exact tick low high ∙ ap (λ (n : ℕ). value design n tick) (eqb-true wave.net net e)
    go false e rest low high = rest low high

-- the level a tick before a wave's clock
continued-before : (level : ℕ → Level) (horizon : ℕ) (wave : Wave) → IsExactWave level horizon wave → (on : ℕ → Level) → level_before (continued wave on) wave.clock ≡ level_before level wave.clock
continued-before level horizon wave exact on = go wave.clock refl
  where
    go : (clock : ℕ) → wave.clock ≡ clock → level_before (continued wave on) clock ≡ level_before level clock
    go zero e = refl
    go (suc last) e = inside (cases_lt last wave.base)
      where
        below : ltb last wave.clock ≡ true
        below = lt-ltb last wave.clock (omega arith)

        inside : (last < wave.base) ⊎ (wave.base ≤ last) → cond (ltb last wave.clock) (level_at wave.kept wave.changes last) (on last) ≡ level last
        inside (inr kept) = rw below (level_at-exact level horizon wave exact last kept (omega arith))
        inside (inl forgotten) =
            let all : wave.base ≡ suc last = omega (arith, exact.base) in
            let none : wave.changes ≡ [] = exact.changes ∙ ap (λ (to : ℕ). changes_between level wave.base to) (let same : wave.clock ≡ wave.base = omega arith in same) ∙ changes_between-same level wave.base in
            rw (below, none) (exact.kept ∙ ap (level_before level) all)

-- a step from exact waves answers an exact piece
pub step_piece-exact : (design : Design) (waves : List Wave) (wave : Wave) → AllByRecursion (IsExactWaveIn design) waves → IsExactWaveIn design wave → IsKept design (told_from waves) wave.net wave.clock (driver_of design.netlist wave.net) → wave.clock < step_reach design waves wave.net → step_reach design waves wave.net ≤ design.horizon → IsExactIn design (step_piece design waves wave)
step_piece-exact design waves wave all exact kept on within = record {
  net = exact.net;
  exact = record {
    not_empty = on;
    within = within;
    changes = changes_between-agree _ (value design wave.net) wave.clock (step_reach design waves wave.net) (continued-before (value design wave.net) design.horizon wave exact.exact _)
        (λ tick a b. let late : ltb tick wave.clock ≡ false = le-ltb tick wave.clock a in rw late (driven_level-known design (told_level waves) (value design) (told_from waves) (told_upto waves) (told_level-exact design waves all) wave.net wave.clock tick a (driver_of design.netlist wave.net) kept b ∙ sym (value-is design wave.net tick)));
  };
}

-- waves that forgot nothing are kept early enough
AreKept-at_zero : (design : Design) (base : ℕ → ℕ) → ((m : ℕ) → base m ≡ 0) → (net clock pin : ℕ) (operands : List ℕ) → AreKept design base net clock pin operands
AreKept-at_zero design base none net clock pin [] = tt
AreKept-at_zero design base none net clock pin (operand ∷ operands) = (omega (arith, none operand), AreKept-at_zero design base none net clock (suc pin) operands)

pub IsKept-at_zero : (design : Design) (base : ℕ → ℕ) → ((m : ℕ) → base m ≡ 0) → (net clock : ℕ) (driver : Driver) → IsKept design base net clock driver
IsKept-at_zero design base none net clock Input = tt
IsKept-at_zero design base none net clock (Gate kind operands) = AreKept-at_zero design base none net clock 1 operands
IsKept-at_zero design base none net clock (Flop source) = omega (arith, none source)

pub step_piece-is_exact : (design : Design) (waves : List Wave) (wave : Wave) → AllByRecursion (IsExactWaveIn design) waves → IsExactWaveIn design wave → IsKept design (told_from waves) wave.net wave.clock (driver_of design.netlist wave.net) → wave.clock < step_reach design waves wave.net → IsExactIn design (step_piece design waves wave)
step_piece-is_exact design waves wave all exact kept on =
    step_piece-exact design waves wave all exact kept on (driver_reach-within design (told_upto waves) wave.net (driver_of design.netlist wave.net))
