-- A process that is a net's by the design makes what the design says of the waves that the cluster has.
use Rattle.std.proofs.Common.{◌≡◌, ℕ, zero, suc, ◌+◌, ◌-◌, ◌<◌, ◌≤◌, Bool, true, false, cond, ltb, leb, List, [], ◌∷◌, ◌++◌, set, Some, ◌⊎◌, inl, inr, refl, sym, ◌∙◌, ap, arith}
use Rattle.std.proofs.lemmas.Bool.{lt-ltb, le-ltb, le-leb, lt-leb, cases_lt}
use Rattle.cmb_wave.specs.declared.level.Level.{Level}
use Rattle.cmb_wave.specs.declared.level.Change.{Change}
use Rattle.cmb_wave.specs.Waveform.{same_level, level_at, level_before, last_level, change_at, changes_in, changes_between, at_or_after}
use Rattle.cmb_wave.specs.Wave.{Wave, new_wave, grown, wave_with_piece}
use Rattle.cmb_wave.proofs.Lists.{test_of_same, same_level-sym}
use Rattle.cmb_wave.proofs.Waveforms.{at_or_after-all, changes_between-rises, level_at-changes_between}
use Rattle.cmb_netlist.specs.declared.netlist.Driver.{Driver}
use Rattle.cmb_netlist.specs.declared.netlist.Driver.TheVariants.{Input as InputNet, Gate as GateNet, Flop as FlopNet}
use Rattle.cmb_netlist.specs.Netlist.{driver_of}
use Rattle.cmb_design_model.specs.Design.{Design}
use Rattle.cmb_design_model.specs.Gate.{gate}
use Rattle.cmb_design_model.specs.Timing.{delay, clock_of, initial_level, stimulus, last_sample, next_sample}
use Rattle.cmb_design_model.specs.Value.{pin_levels, flop_level, driven_level}
use Rattle.cmb_core_cluster.specs.declared.process.ProcessPin.{ProcessPin}
use Rattle.cmb_core_cluster.specs.declared.process.ProcessRule.TheVariants.{Flop}
use Rattle.cmb_core_cluster.specs.Rows.{Process, slot_of}
use Rattle.cmb_core_cluster.specs.Inner.Processes.{delayed_levels, sampled_wave, process_level, process_reach, gate_reach}
use Rattle.cmb_core_cluster.specs.Reach.{pins_reach, driver_reach}
use Rattle.cmb_core_cluster.specs.Inner.Spans.{changes_from}
use Rattle.cmb_core_cluster.specs.Step.{wave_at, told_level, told_upto, continued, step_changes, step_reach, step_piece}
use Rattle.cmb_core_cluster.specs.Clusters.{Cluster, process_at, slot_wave, AreOperands, IsDrivenBy, step_answer, step_waves}
use Rattle.cmb_core_cluster.specs.Inner.Spans.{new_part, new_waves_at, reach_at, changes_at}
use Rattle.cmb_core_cluster.proofs.Slots.{slot_is, slot_net, set_with}
use Rattle.cmb_core_cluster.proofs.ReachFacts.{driver_reach-within}

-- the cluster drives the net, as the design says
pub record Drives (design : Design) (s : Cluster) (net slot : ℕ) : Type 0 where
  pub horizon : s.horizon ≡ design.horizon
  pub here : slot_of s.waves net ≡ Some slot
  pub process : IsDrivenBy design net (driver_of design.netlist net) (process_at s slot)

-- ---- the levels on the pins

pins-same : (design : Design) (waves : List Wave) (net pin tick : ℕ) (sources : List ℕ) (os : List ProcessPin) → AreOperands design net pin sources os → delayed_levels waves os tick ≡ pin_levels design (told_level waves) net tick pin sources
pins-same design waves net pin tick [] [] a = refl
pins-same design waves net pin tick (source ∷ sources) (o ∷ os) a =
    rw (a.0, a.1, pins-same design waves net (suc pin) tick sources os a.2) refl
pins-same design waves net pin tick [] (o ∷ os) a = absurd a
pins-same design waves net pin tick (source ∷ sources) [] a = absurd a

pins_reach-same : (design : Design) (waves : List Wave) (net pin : ℕ) (sources : List ℕ) (os : List ProcessPin) → AreOperands design net pin sources os → gate_reach design.horizon waves os ≡ pins_reach design (told_upto waves) net design.horizon pin sources
pins_reach-same design waves net pin [] [] a = refl
pins_reach-same design waves net pin (source ∷ sources) (o ∷ os) a =
    rw (a.0, a.1, pins_reach-same design waves net (suc pin) sources os a.2) refl
pins_reach-same design waves net pin [] (o ∷ os) a = absurd a
pins_reach-same design waves net pin (source ∷ sources) [] a = absurd a

-- a flip-flop holds its first level up to its delay after the first sample
flop-same : (design : Design) (waves : List Wave) (net source tick : ℕ) → sampled_wave (wave_at waves source) (clock_of design net).first (clock_of design net).period (initial_level design net) (delay design net 1) tick ≡ flop_level design (told_level waves source) net tick
unfolding last_sample
flop-same design waves net source tick =
    go (cases_lt tick (delay design net 1)) (cases_lt (tick - delay design net 1) (clock_of design net).first)
  where
    go : (tick < delay design net 1) ⊎ (delay design net 1 ≤ tick) → (tick - delay design net 1 < (clock_of design net).first) ⊎ ((clock_of design net).first ≤ tick - delay design net 1) → sampled_wave (wave_at waves source) (clock_of design net).first (clock_of design net).period (initial_level design net) (delay design net 1) tick ≡ flop_level design (told_level waves source) net tick
    go (inl early) _ =
        let a : ltb tick (delay design net 1) ≡ true = lt-ltb _ _ early in
        let b : ltb tick ((clock_of design net).first + delay design net 1) ≡ true = lt-ltb _ _ (omega arith) in
        rw (a, b) refl
    go (inr late) (inl before) =
        let a : ltb tick (delay design net 1) ≡ false = le-ltb _ _ late in
        let b : ltb tick ((clock_of design net).first + delay design net 1) ≡ true = lt-ltb _ _ (omega arith) in
        let d : ltb (tick - delay design net 1) (clock_of design net).first ≡ true = lt-ltb _ _ before in
        rw (a, b, d) refl
    go (inr late) (inr after) =
        let a : ltb tick (delay design net 1) ≡ false = le-ltb _ _ late in
        let b : ltb tick ((clock_of design net).first + delay design net 1) ≡ false = le-ltb _ _ (omega arith) in
        let d : ltb (tick - delay design net 1) (clock_of design net).first ≡ false = le-ltb _ _ after in
        rw (a, b, d) refl

-- ---- the row and the reach of a process

flop_row : (design : Design) (waves : List Wave) (net source tick : ℕ) (os : List ProcessPin) (cs : List Change) → AreOperands design net 1 (source ∷ []) os → process_level waves (Flop (clock_of design net).first (clock_of design net).period (initial_level design net)) os cs tick ≡ flop_level design (told_level waves source) net tick
flop_row design waves net source tick [] cs a = absurd a
flop_row design waves net source tick (o ∷ []) cs a = rw (a.0, a.1) (flop-same design waves net source tick)
flop_row design waves net source tick (o ∷ q ∷ os) cs a = absurd a.2

flop_reach-same : (design : Design) (waves : List Wave) (net source : ℕ) (os : List ProcessPin) → AreOperands design net 1 (source ∷ []) os → process_reach design.horizon waves (Flop (clock_of design net).first (clock_of design net).period (initial_level design net)) os ≡ driver_reach design (told_upto waves) net (FlopNet source)
unfolding next_sample
flop_reach-same design waves net source [] a = absurd a
flop_reach-same design waves net source (o ∷ []) a = rw (a.0, a.1) refl
flop_reach-same design waves net source (o ∷ q ∷ os) a = absurd a.2

row-same : (design : Design) (waves : List Wave) (net : ℕ) (p : Process) (driver : Driver) → IsDrivenBy design net driver p → (tick : ℕ) → tick < design.horizon → process_level waves p.rule p.operands p.stimulus tick ≡ driven_level design (told_level waves) net tick driver
row-same design waves net p InputNet d tick h =
    rw (d.0, d.1) (level_at-changes_between (stimulus design net) 0 design.horizon tick (omega arith) h)
row-same design waves net p (GateNet kind sources) d tick h =
    rw d.0 (ap (gate kind) (pins-same design waves net 1 tick sources p.operands d.1))
row-same design waves net p (FlopNet source) d tick h =
    rw d.0 (flop_row design waves net source tick p.operands p.stimulus d.1)

reach-same : (design : Design) (waves : List Wave) (net : ℕ) (p : Process) (driver : Driver) → IsDrivenBy design net driver p → process_reach design.horizon waves p.rule p.operands ≡ driver_reach design (told_upto waves) net driver
reach-same design waves net p InputNet d = rw d.0 refl
reach-same design waves net p (GateNet kind sources) d = rw d.0 (pins_reach-same design waves net 1 sources p.operands d.1)
reach-same design waves net p (FlopNet source) d = rw d.0 (flop_reach-same design waves net source p.operands d.1)

-- ---- changes counted on from the level before are the changes of the waveform

pub changes_from-is : (f g : ℕ → Level) (before : Level) (ticks first : ℕ) → before ≡ level_before g first → ((t : ℕ) → first ≤ t → t < first + ticks → f t ≡ g t) → changes_from f before first ticks ≡ changes_in g first ticks
unfolding changes_in change_at
changes_from-is f g before zero first b same = refl
changes_from-is f g before (suc ticks) first b same =
    let here : f first ≡ g first = same first (omega arith) (omega arith) in
    let later : (t : ℕ) → suc first ≤ t → t < suc first + ticks → f t ≡ g t = λ t low high. same t (omega arith) (omega arith) in
    let test : same_level (level_before g first) (g first) ≡ same_level (f first) before = rw (here, b) (same_level-sym (level_before g first) (g first)) in
    rw test (go (same_level (f first) before) refl here (λ l e. changes_from-is f g l ticks (suc first) e later))
  where
    go : (s : Bool) → same_level (f first) before ≡ s → f first ≡ g first → ((l : Level) → l ≡ g first → changes_from f l (suc first) ticks ≡ changes_in g (suc first) ticks) → cond s (changes_from f before (suc first) ticks) (record { tick = first; level = f first } ∷ changes_from f (f first) (suc first) ticks) ≡ cond s [] (record { tick = first; level = g first } ∷ []) ++ changes_in g (suc first) ticks
    go true e here rest = rest before (sym (test_of_same (f first) before e) ∙ here)
    go false e here rest =
        ap (λ l. record { tick = first; level = l } ∷ changes_from f (f first) (suc first) ticks) here ∙ ap (λ cs. record { tick = first; level = g first } ∷ cs) (rest (f first) here)

pub before-continued : (w : Wave) (f : ℕ → Level) (clock : ℕ) → clock ≡ w.clock → level_before (level_at w.kept w.changes) clock ≡ level_before (continued w f) clock
before-continued w f zero e = refl
before-continued w f (suc tick) e = let below : ltb tick w.clock ≡ true = lt-ltb tick w.clock (omega arith) in rw below refl

-- ---- a step

-- of two tests of one step each takes its side of it
later_or_not : {A : Type 0} (none went other : A) (reach known clock : ℕ) → reach ≡ known → (clock < reach → went ≡ other) → cond (leb reach clock) none went ≡ cond (ltb clock known) other none
later_or_not none went other reach known clock is same = go (cases_lt clock reach)
  where
    go : (clock < reach) ⊎ (reach ≤ clock) → cond (leb reach clock) none went ≡ cond (ltb clock known) other none
    go (inl more) =
        let a : leb reach clock ≡ false = lt-leb _ _ more in
        let b : ltb clock known ≡ true = lt-ltb _ _ (omega (arith, more, is)) in
        rw (a, b) (same more)
    go (inr at_most) =
        let a : leb reach clock ≡ true = le-leb _ _ at_most in
        let b : ltb clock known ≡ false = le-ltb _ _ (omega (arith, at_most, is)) in
        rw (a, b) refl

module _ (design : Design) (s : Cluster) (net slot : ℕ) (d : Drives design s net slot) where
  pub driven_wave : slot_wave s slot ≡ wave_at s.waves net
  driven_wave = (slot_is s.waves net slot (new_wave 0) d.here).1

  driven_net : (slot_wave s slot).net ≡ net
  driven_net = ap (λ v. v.net) driven_wave ∙ slot_net s.waves net slot d.here

  pub driven_reach : reach_at s slot ≡ step_reach design s.waves (slot_wave s slot).net
  driven_reach = rw (driven_net, d.horizon) (reach-same design s.waves net (process_at s slot) (driver_of design.netlist net) d.process)

module _ (design : Design) (s : Cluster) (net slot : ℕ) (d : Drives design s net slot) (before : (slot_wave s slot).clock < reach_at s slot → last_level (slot_wave s slot).kept (slot_wave s slot).changes ≡ level_before (level_at (slot_wave s slot).kept (slot_wave s slot).changes) (slot_wave s slot).clock) where
  pub wave_here : slot_wave s slot ≡ wave_at s.waves net
  wave_here = driven_wave design s net slot d

  pub net_here : (slot_wave s slot).net ≡ net
  net_here = driven_net design s net slot d

  pub reach_is : reach_at s slot ≡ step_reach design s.waves (slot_wave s slot).net
  reach_is = driven_reach design s net slot d

  changes_is : (slot_wave s slot).clock < reach_at s slot → changes_at s slot ≡ step_changes design s.waves (slot_wave s slot) (reach_at s slot)
  unfolding changes_between
  changes_is more =
      let drive : ℕ → Level = λ tick. driven_level design (told_level s.waves) (slot_wave s slot).net tick (driver_of design.netlist (slot_wave s slot).net) in
      let within : step_reach design s.waves (slot_wave s slot).net ≤ design.horizon = driver_reach-within design (told_upto s.waves) (slot_wave s slot).net (driver_of design.netlist (slot_wave s slot).net) in
      let same : (t : ℕ) → (slot_wave s slot).clock ≤ t → t < (slot_wave s slot).clock + (reach_at s slot - (slot_wave s slot).clock) → process_level s.waves (process_at s slot).rule (process_at s slot).operands (process_at s slot).stimulus t ≡ continued (slot_wave s slot) drive t =
      λ t low high.
      let early : t < design.horizon = omega (arith, reach_is, within) in
      let later : ltb t (slot_wave s slot).clock ≡ false = le-ltb t (slot_wave s slot).clock low in
      rw (later, net_here) (row-same design s.waves net (process_at s slot) (driver_of design.netlist net) d.process t early)
      in
      changes_from-is _ (continued (slot_wave s slot) drive) _ (reach_at s slot - (slot_wave s slot).clock) (slot_wave s slot).clock
      (before more ∙ before-continued (slot_wave s slot) drive (slot_wave s slot).clock refl) same

  -- the whole piece
  piece_is : (slot_wave s slot).clock < reach_at s slot → record { net = (slot_wave s slot).net; from = (slot_wave s slot).clock; to = reach_at s slot; changes = changes_at s slot } ≡ step_piece design s.waves (slot_wave s slot)
  piece_is more =
      let all : changes_at s slot ≡ step_changes design s.waves (slot_wave s slot) (step_reach design s.waves (slot_wave s slot).net) = changes_is more ∙ ap (λ to. step_changes design s.waves (slot_wave s slot) to) reach_is in
      λ i. record { net = (slot_wave s slot).net; from = (slot_wave s slot).clock; to = reach_is i; changes = all i }

  -- none of its changes is below the clock
  grown_is : (slot_wave s slot).clock < reach_at s slot → (slot_wave s slot).clock ≤ step_reach design s.waves (slot_wave s slot).net → grown (slot_wave s slot) (reach_at s slot) (changes_at s slot) ≡ wave_with_piece (slot_wave s slot) (step_piece design s.waves (slot_wave s slot))
  grown_is more h =
      let drive : ℕ → Level = λ tick. driven_level design (told_level s.waves) (slot_wave s slot).net tick (driver_of design.netlist (slot_wave s slot).net) in
      let to : ℕ = step_reach design s.waves (slot_wave s slot).net in
      let all : changes_at s slot ≡ step_changes design s.waves (slot_wave s slot) to = changes_is more ∙ ap (λ to. step_changes design s.waves (slot_wave s slot) to) reach_is in
      let kept : at_or_after (slot_wave s slot).clock (step_changes design s.waves (slot_wave s slot) to) ≡ step_changes design s.waves (slot_wave s slot) to = at_or_after-all (slot_wave s slot).clock (slot_wave s slot).clock to _ (omega arith) (changes_between-rises (continued (slot_wave s slot) drive) (slot_wave s slot).clock to h) in
      let same : changes_at s slot ≡ at_or_after (slot_wave s slot).clock (step_changes design s.waves (slot_wave s slot) to) = all ∙ sym kept in
      λ i. grown (slot_wave s slot) (reach_is i) (same i)

  part_is : new_part s slot ≡ step_answer design s.waves (slot_wave s slot)
  part_is = later_or_not _ _ _ (reach_at s slot) (step_reach design s.waves (slot_wave s slot).net) (slot_wave s slot).clock reach_is (λ more. ap (λ piece. Some piece) (piece_is more))

  waves_are : new_waves_at s slot ≡ step_waves design s.waves (slot_wave s slot)
  waves_are = later_or_not _ _ _ (reach_at s slot) (step_reach design s.waves (slot_wave s slot).net) (slot_wave s slot).clock reach_is (λ more.
      let place : slot_of s.waves (slot_wave s slot).net ≡ Some slot = ap (slot_of s.waves) net_here ∙ d.here in
      ap (λ v. set s.waves slot v) (grown_is more (omega (arith, more, reach_is))) ∙ set_with s.waves slot (wave_with_piece (slot_wave s slot) (step_piece design s.waves (slot_wave s slot))) place)

  pub step_part_is : new_part s slot ≡ step_answer design s.waves (wave_at s.waves net)
  step_part_is = part_is ∙ ap (step_answer design s.waves) wave_here

  pub step_waves_are : new_waves_at s slot ≡ step_waves design s.waves (wave_at s.waves net)
  step_waves_are = waves_are ∙ ap (step_waves design s.waves) wave_here
