-- A trim changes no answer: a cluster that was trimmed goes on as the same cluster would that never was, less what it forgot.
use Rattle.std.proofs.Common.{◌≡◌, ℕ, zero, suc, ◌+◌, ◌<◌, ◌≤◌, Bool, true, false, cond, eqb, ltb, leb, List, [], ◌∷◌, ◌++◌, ◌⊎◌, inl, inr, length, get_or, map, Option, Some, None, IsSome, Result, Ok, Err, refl, sym, ◌∙◌, ap, subst, arith}
use Rattle.std.specs.List.{AllByRecursion, range_with_len}
use Rattle.std.specs.Result.{result_map_both}
use Rattle.std.proofs.lemmas.Bool.{lt-ltb, le-ltb, ltb-true, leb-false, cases_lt}
use Rattle.std.proofs.lemmas.List.Elements.{filter-append}
use Rattle.cmb_wave.specs.declared.level.Change.{Change}
use Rattle.cmb_wave.specs.declared.level.Level.{Level}
use Rattle.cmb_wave.specs.declared.level.Promise.{Promise}
use Rattle.cmb_wave.specs.declared.wave.WaveFault.{WaveFault}
use Rattle.cmb_wave.specs.Waveform.{level_at, level_before, last_level, at_or_after, changes_below, changes_between, IsTrace}
use Rattle.cmb_wave.specs.Wave.{Piece, Wave, IsExactWave, new_wave, wave_with_piece, wave_up_to, wave_from}
use Rattle.cmb_wave.specs.Calls.{taken, hears, heard_wave}
use Rattle.cmb_wave.proofs.Forgets.{at_or_after-later, changes_below-append, heard-from, level_at-from, taken-from}
use Rattle.cmb_wave.proofs.Lists.{last_level_append, rises_of_trace}
use Rattle.cmb_wave.proofs.Spans.{trace-both, trace-rises}
use Rattle.cmb_wave.proofs.Waveforms.{changes_between-agree, changes_between-alternates, changes_between-rises}
use Rattle.cmb_netlist.specs.Netlist.{driver_of}
use Rattle.cmb_design_model.specs.Design.{Design}
use Rattle.cmb_design_model.specs.Exact.{IsExactWaveIn}
use Rattle.cmb_design_model.specs.Value.{value}
use Rattle.cmb_core_cluster.specs.declared.process.ProcessRule.TheVariants.{Given}
use Rattle.cmb_core_cluster.specs.Clustering.{Clustering}
use Rattle.cmb_core_cluster.specs.Clusters.{Cluster, IsSound, process_at, slot_wave, given_only, input_slot, as_delivery, delivered_at, delivered, heard_at, step_answer, step_waves}
use Rattle.cmb_core_cluster.specs.Opened.{IsClusterOf, IsOwnNet}
use Rattle.cmb_core_cluster.specs.Reach.{reach_by, IsKept}
use Rattle.cmb_core_cluster.specs.Rows.{Process, slot_of, is_given}
use Rattle.cmb_core_cluster.specs.Step.{wave_at, told_level, told_upto, told_from, step_changes, step_reach, step_piece, with_wave}
use Rattle.cmb_core_cluster.specs.Trims.{trimmed_to, trimmed_wave, trimmed, IsTrim, AreTrims, IsTrimOf, AreAlike, AreTraces}
use Rattle.cmb_core_cluster.proofs.Driven.{Drives, before-continued}
use Rattle.cmb_core_cluster.proofs.ExactFacts.{kept_here, taken_is}
use Rattle.cmb_core_cluster.proofs.OwnFacts.{own_placed, drives_own}
use Rattle.cmb_core_cluster.proofs.ReadFacts.{driven-not_given}
use Rattle.cmb_core_cluster.proofs.Slots.{slot_is}
use Rattle.cmb_core_cluster.proofs.Steps.{driven_level-known, wave_at-net}
use Rattle.cmb_core_cluster.proofs.TrimFacts.{trim_clock, trim_keeps, trim_net, trim_same, trimmed_trims, trims_range, wave_trims}

-- ---- one wave

pub trims_same : (waves : List Wave) → AreTrims waves waves
trims_same [] = tt
trims_same (w ∷ ws) = (trim_same w, trims_same ws)

-- the changes of an exact wave are a trace
exact_trace : (level : ℕ → Level) (horizon : ℕ) (w : Wave) → IsExactWave level horizon w → IsTrace w.kept w.base w.changes w.clock
exact_trace level horizon w e =
    rw (e.changes, e.kept) (trace-both (level_before level w.base) w.base w.clock (changes_between level w.base w.clock) e.base
    (changes_between-rises level w.base w.clock e.base) (changes_between-alternates level w.base w.clock))

pub exact_traces : (design : Design) (waves : List Wave) → AllByRecursion (IsExactWaveIn design) waves → AreTraces waves
exact_traces design [] e = tt
exact_traces design (w ∷ ws) e = (exact_trace (value design w.net) design.horizon w e.0.exact, exact_traces design ws e.1)

trim_count : (least : ℕ) (w : Wave) → (trimmed_to least w).count ≡ w.count
trim_count least w = trim_keeps (λ v. v.count) least w refl

-- it tells the same levels from its base on
trim_levels : (least : ℕ) (w : Wave) → IsTrace w.kept w.base w.changes w.clock → (tick : ℕ) → (trimmed_to least w).base ≤ tick → level_at (trimmed_to least w).kept (trimmed_to least w).changes tick ≡ level_at w.kept w.changes tick
trim_levels least w trace tick h = go (ltb w.base least) h
  where
    go : (b : Bool) → (cond b (wave_from w least) w).base ≤ tick → level_at (cond b (wave_from w least) w).kept (cond b (wave_from w least) w).changes tick ≡ level_at w.kept w.changes tick
    go true k = level_at-from w.kept w.base w.clock least tick w.changes (trace-rises w.kept w.base w.clock w.changes trace) k
    go false k = refl

-- a wave that is kept from tick 0 on has forgotten nothing
trim_whole : (least : ℕ) (w : Wave) → (trimmed_to least w).base ≡ 0 → trimmed_to least w ≡ w
trim_whole least w none = go (ltb w.base least) refl none
  where
    go : (b : Bool) → ltb w.base least ≡ b → (cond b (wave_from w least) w).base ≡ 0 → cond b (wave_from w least) w ≡ w
    go true e z = absurd (omega (arith, ltb-true _ _ e))
    go false e z = refl

-- ---- to forget twice

below_twice : (early late : ℕ) (cs : List Change) → early ≤ late → changes_below late (changes_below early cs) ≡ changes_below early cs
below_twice early late [] h = refl
below_twice early late (c ∷ cs) h = go (cases_lt c.tick early) (below_twice early late cs h)
  where
    go : (c.tick < early) ⊎ (early ≤ c.tick) → changes_below late (changes_below early cs) ≡ changes_below early cs → changes_below late (changes_below early (c ∷ cs)) ≡ changes_below early (c ∷ cs)
    go (inl before) rest =
        let a : ltb c.tick early ≡ true = lt-ltb _ _ before in
        let b : ltb c.tick late ≡ true = lt-ltb _ _ (omega arith) in
        rw (a, b) (ap (λ ds. c ∷ ds) rest)
    go (inr after) rest = let a : ltb c.tick early ≡ false = le-ltb _ _ after in rw a rest

from_twice : (w : Wave) (early late : ℕ) → IsTrace w.kept w.base w.changes w.clock → early ≤ late → wave_from (wave_from w early) late ≡ wave_from w late
from_twice w early late trace h =
    let rest : at_or_after late (at_or_after early w.changes) ≡ at_or_after late w.changes = at_or_after-later early late w.changes h in
    let whole : changes_below early w.changes ++ at_or_after early w.changes ≡ w.changes = changes_below-append w.base early w.changes (rises_of_trace _ _ _ _ trace) in
    let parts : changes_below late w.changes ≡ changes_below early w.changes ++ changes_below late (at_or_after early w.changes) =
    ap (changes_below late) (sym whole) ∙ filter-append (λ change. ltb change.tick late) (changes_below early w.changes) (at_or_after early w.changes)
    ∙ ap (λ cs. cs ++ changes_below late (at_or_after early w.changes)) (below_twice early late w.changes h)
    in
    let level : last_level (last_level w.kept (changes_below early w.changes)) (changes_below late (at_or_after early w.changes)) ≡ last_level w.kept (changes_below late w.changes) =
    sym (ap (last_level w.kept) parts ∙ last_level_append w.kept (changes_below early w.changes) (changes_below late (at_or_after early w.changes)))
    in
    λ i. record {
      net = w.net;
      base = late;
      clock = w.clock;
      count = w.count;
      kept = level i;
      changes = rest i;
    }

trim_twice : (w : Wave) (early late : ℕ) → IsTrace w.kept w.base w.changes w.clock → early ≤ w.clock → late ≤ w.clock → IsTrim w (trimmed_to late (trimmed_to early w))
trim_twice w early late trace a b = go (ltb w.base early) refl
  where
    again : ltb w.base early ≡ true → (m : Bool) → ltb early late ≡ m → IsTrim w (cond m (wave_from (wave_from w early) late) (wave_from w early))
    again e true f =
        let first : w.base < early = ltb-true _ _ e in
        let later : early < late = ltb-true _ _ f in
        let t : ltb w.base late ≡ true = lt-ltb _ _ (omega arith) in
        (late, b, from_twice w early late trace (omega arith) ∙ sym (ap (λ m. cond m (wave_from w late) w) t))
    again e false f = (early, a, sym (ap (λ m. cond m (wave_from w early) w) e))

    go : (m : Bool) → ltb w.base early ≡ m → IsTrim w (trimmed_to late (cond m (wave_from w early) w))
    go true e = again e (ltb early late) refl
    go false e = (late, b, refl)

trim_again : (w v : Wave) (least : ℕ) → IsTrace w.kept w.base w.changes w.clock → IsTrim w v → least ≤ w.clock → IsTrim w (trimmed_to least v)
trim_again w v least trace t h =
    let P : Wave → Type 0 = λ x. IsTrim w (trimmed_to least x) in
    subst P (sym t.2) (trim_twice w t.0 least trace t.1 h)

-- ---- waves by their net and by their place

trims_at : (ws vs : List Wave) → AreTrims ws vs → (net : ℕ) → IsTrim (wave_at ws net) (wave_at vs net)
trims_at [] [] t net = trim_same (new_wave net)
trims_at (w ∷ ws) (v ∷ vs) t net = go (eqb w.net net) (eqb v.net net) (ap (λ n. eqb n net) (ap (λ x. x.net) t.0.2 ∙ trim_net t.0.0 w)) (trims_at ws vs t.1 net)
  where
    go : (a b : Bool) → b ≡ a → IsTrim (wave_at ws net) (wave_at vs net) → IsTrim (cond a w (wave_at ws net)) (cond b v (wave_at vs net))
    go true true e rest = t.0
    go false false e rest = rest
    go true false e rest = cc
    go false true e rest = cc
trims_at [] (v ∷ vs) t net = absurd t
trims_at (w ∷ ws) [] t net = absurd t

pub trims_with : (ws vs : List Wave) (w v : Wave) → AreTrims ws vs → IsTrim w v → AreTrims (with_wave ws w) (with_wave vs v)
trims_with [] [] w v t h = tt
trims_with (x ∷ xs) (y ∷ ys) w v t h = go (eqb x.net w.net) (eqb y.net v.net) same (trims_with xs ys w v t.1 h)
  where
    same : eqb y.net v.net ≡ eqb x.net w.net
    same = ap (λ n. eqb n v.net) (ap (λ z. z.net) t.0.2 ∙ trim_net t.0.0 x) ∙ ap (eqb x.net) (ap (λ z. z.net) h.2 ∙ trim_net h.0 w)

    go : (a b : Bool) → b ≡ a → AreTrims (with_wave xs w) (with_wave ys v) → AreTrims (cond a (w ∷ xs) (x ∷ with_wave xs w)) (cond b (v ∷ ys) (y ∷ with_wave ys v))
    go true true e rest = (h, t.1)
    go false false e rest = (t.0, rest)
    go true false e rest = cc
    go false true e rest = cc
trims_with [] (y ∷ ys) w v t h = absurd t
trims_with (x ∷ xs) [] w v t h = absurd t

trims_slot : (ws vs : List Wave) → AreTrims ws vs → (net : ℕ) → slot_of vs net ≡ slot_of ws net
trims_slot [] [] t net = refl
trims_slot (w ∷ ws) (v ∷ vs) t net = let e : v.net ≡ w.net = ap (λ x. x.net) t.0.2 ∙ trim_net t.0.0 w in rw (e, trims_slot ws vs t.1 net) refl
trims_slot [] (v ∷ vs) t net = absurd t
trims_slot (w ∷ ws) [] t net = absurd t

trims_length : (ws vs : List Wave) → AreTrims ws vs → length vs ≡ length ws
trims_length [] [] t = refl
trims_length (w ∷ ws) (v ∷ vs) t = ap (λ n. suc n) (trims_length ws vs t.1)
trims_length [] (v ∷ vs) t = absurd t
trims_length (w ∷ ws) [] t = absurd t

trims_get : (ws vs : List Wave) → AreTrims ws vs → (i : ℕ) → IsTrim (get_or ws i (new_wave 0)) (get_or vs i (new_wave 0))
trims_get [] [] t i = trim_same (new_wave 0)
trims_get (w ∷ ws) (v ∷ vs) t zero = t.0
trims_get (w ∷ ws) (v ∷ vs) t (suc i) = trims_get ws vs t.1 i
trims_get [] (v ∷ vs) t i = absurd t
trims_get (w ∷ ws) [] t i = absurd t

trace_at : (ws : List Wave) → AreTraces ws → (net : ℕ) → IsTrace (wave_at ws net).kept (wave_at ws net).base (wave_at ws net).changes (wave_at ws net).clock
trace_at [] all net = omega arith
trace_at (w ∷ ws) all net = go (eqb w.net net) (trace_at ws all.1 net)
  where
    go : (b : Bool) → IsTrace (wave_at ws net).kept (wave_at ws net).base (wave_at ws net).changes (wave_at ws net).clock → IsTrace (cond b w (wave_at ws net)).kept (cond b w (wave_at ws net)).base (cond b w (wave_at ws net)).changes (cond b w (wave_at ws net)).clock
    go true rest = all.0
    go false rest = rest

trace_get : (ws : List Wave) → AreTraces ws → (i : ℕ) → IsTrace (get_or ws i (new_wave 0)).kept (get_or ws i (new_wave 0)).base (get_or ws i (new_wave 0)).changes (get_or ws i (new_wave 0)).clock
trace_get [] all i = omega arith
trace_get (w ∷ ws) all zero = all.0
trace_get (w ∷ ws) all (suc i) = trace_get ws all.1 i

-- ---- a trim of what was trimmed

pub trimmed_again : (s less : Cluster) → AreTraces s.waves → IsTrimOf s less → IsTrimOf s (trimmed less)
trimmed_again s less traces t =
    let P : ℕ → Type 0 = λ n. AreTrims s.waves (map (trimmed_wave less) (range_with_len 0 n)) in
    record {
      horizon = t.horizon;
      processes = t.processes;
      waves = subst P (sym (trims_length s.waves less.waves t.waves)) (trims_range s.waves (trimmed_wave less) 0 (λ k h. let here : 0 + k ≡ k = omega arith in let Q : ℕ → Type 0 = λ n. IsTrim (slot_wave s k) (trimmed_wave less n) in subst Q (sym here) (each k)));
    }
  where
    each : (k : ℕ) → IsTrim (slot_wave s k) (trimmed_wave less k)
    each k =
        let here : IsTrim (slot_wave s k) (slot_wave less k) = trims_get s.waves less.waves t.waves k in
        let more = wave_trims less k in
        let low : more.0 ≤ (slot_wave s k).clock = omega (arith, more.1, ap (λ (w : Wave). w.clock) here.2, trim_clock here.0 (slot_wave s k)) in
        subst (IsTrim (slot_wave s k)) (sym more.2) (trim_again (slot_wave s k) (slot_wave less k) more.0 (trace_get s.waves traces k) here low)

-- a trim moves no clock
pub trimmed_clock : (s : Cluster) (net : ℕ) → (wave_at (trimmed s).waves net).clock ≡ (wave_at s.waves net).clock
trimmed_clock s net = let here = trims_at s.waves (trimmed s).waves (trimmed_trims s) net in ap (λ (w : Wave). w.clock) here.2 ∙ trim_clock here.0 (wave_at s.waves net)

-- ---- deliveries and promises

input_same : (s less : Cluster) → IsTrimOf s less → (net : ℕ) → input_slot less net ≡ input_slot s net
input_same s less t net = ap (given_only less) (trims_slot s.waves less.waves t.waves net) ∙ go (slot_of s.waves net)
  where
    go : (o : Option ℕ) → given_only less o ≡ given_only s o
    go None = refl
    go (Some k) =
        let none : Process = record { rule = Given; operands = []; stimulus = [] } in
        ap (λ ps. cond (is_given (get_or ps k none).rule) (Some k) None) t.processes

taken_trim : (w : Wave) (piece : Piece) (least : ℕ) → IsTrace w.kept w.base w.changes w.clock → least ≤ w.clock → AreAlike (as_delivery (taken w piece)) (as_delivery (taken (trimmed_to least w) piece))
taken_trim w piece least trace h = go (ltb w.base least) refl
  where
    alike : (r : Result Wave WaveFault) → AreAlike (as_delivery r) (as_delivery r)
    alike (Ok after) = trim_same after
    alike (Err fault) = refl

    forgot : ltb w.base least ≡ true → (r : Result Wave WaveFault) → taken w piece ≡ r → AreAlike (as_delivery r) (as_delivery (result_map_both (λ after. wave_from after least) (λ fault. fault) r))
    forgot e (Ok after) q =
        let t : (piece.from ≤ w.clock) × (w.clock < piece.to) × (after ≡ wave_with_piece w piece) = taken_is w piece after q in
        let clock : after.clock ≡ piece.to = ap (λ x. x.clock) t.2 in
        let base : after.base ≡ w.base = ap (λ x. x.base) t.2 in
        (least, omega (arith, clock, t.1), sym (ap (λ m. cond m (wave_from after least) after) (ap (λ n. ltb n least) base ∙ e)))
    forgot e (Err fault) q = refl

    go : (b : Bool) → ltb w.base least ≡ b → AreAlike (as_delivery (taken w piece)) (as_delivery (taken (cond b (wave_from w least) w) piece))
    go true e =
        let P : Result Wave WaveFault → Type 0 = λ r. AreAlike (as_delivery (taken w piece)) (as_delivery r) in
        subst P (sym (taken-from w piece least trace h)) (forgot e (taken w piece) refl)
    go false e = alike (taken w piece)

pub delivered_alike : (s less : Cluster) (piece : Piece) → AreTraces s.waves → IsTrimOf s less → AreAlike (delivered s piece) (delivered less piece)
delivered_alike s less piece traces t =
    let P : Option ℕ → Type 0 = λ o. AreAlike (delivered s piece) (delivered_at less piece o) in
    subst P (sym (input_same s less t piece.net)) (go (input_slot s piece.net))
  where
    here : IsTrim (wave_at s.waves piece.net) (wave_at less.waves piece.net)
    here = trims_at s.waves less.waves t.waves piece.net

    go : (o : Option ℕ) → AreAlike (delivered_at s piece o) (delivered_at less piece o)
    go None = refl
    go (Some k) =
        let Q : Wave → Type 0 = λ v. AreAlike (as_delivery (taken (wave_at s.waves piece.net) piece)) (as_delivery (taken v piece)) in
        subst Q (sym here.2) (taken_trim (wave_at s.waves piece.net) piece here.0 (trace_at s.waves traces piece.net) here.1)

pub heard_alike : (s less : Cluster) (promise : Promise) → IsTrimOf s less → heard_at less promise (input_slot less promise.net) ≡ heard_at s promise (input_slot s promise.net)
heard_alike s less promise t = ap (heard_at less promise) (input_same s less t promise.net) ∙ go (input_slot s promise.net)
  where
    here : IsTrim (wave_at s.waves promise.net) (wave_at less.waves promise.net)
    here = trims_at s.waves less.waves t.waves promise.net

    answer : hears (wave_at less.waves promise.net) promise ≡ hears (wave_at s.waves promise.net) promise
    answer =
        let clock : (wave_at less.waves promise.net).clock ≡ (wave_at s.waves promise.net).clock = ap (λ x. x.clock) here.2 ∙ trim_clock here.0 (wave_at s.waves promise.net) in
        let count : (wave_at less.waves promise.net).count ≡ (wave_at s.waves promise.net).count = ap (λ x. x.count) here.2 ∙ trim_count here.0 (wave_at s.waves promise.net) in
        rw (clock, count) refl

    go : (o : Option ℕ) → heard_at less promise o ≡ heard_at s promise o
    go None = refl
    go (Some k) = ap (λ h. Ok h) answer

heard_trim : (w : Wave) (promise : Promise) (least : ℕ) → least ≤ w.clock → IsTrim (heard_wave w promise) (heard_wave (trimmed_to least w) promise)
heard_trim w promise least h = go (ltb w.base least) refl
  where
    base : (heard_wave w promise).base ≡ w.base
    base = at (leb promise.upto w.clock) (eqb w.count promise.count)
      where
        at : (a b : Bool) → (cond a w (cond b (wave_up_to w promise.upto) w)).base ≡ w.base
        at true b = refl
        at false true = refl
        at false false = refl

    clock : w.clock ≤ (heard_wave w promise).clock
    clock = at (leb promise.upto w.clock) refl (eqb w.count promise.count)
      where
        at : (a : Bool) → leb promise.upto w.clock ≡ a → (b : Bool) → w.clock ≤ (cond a w (cond b (wave_up_to w promise.upto) w)).clock
        at true e b = omega arith
        at false e true = let above : w.clock < promise.upto = leb-false _ _ e in omega arith
        at false e false = omega arith

    go : (b : Bool) → ltb w.base least ≡ b → IsTrim (heard_wave w promise) (heard_wave (cond b (wave_from w least) w) promise)
    go true e = (least, omega (arith, clock), heard-from w promise least ∙ sym (ap (λ m. cond m (wave_from (heard_wave w promise) least) (heard_wave w promise)) (ap (λ n. ltb n least) base ∙ e)))
    go false e = trim_same (heard_wave w promise)

pub heard_trims : (s less : Cluster) (promise : Promise) → IsTrimOf s less → IsTrim (heard_wave (wave_at s.waves promise.net) promise) (heard_wave (wave_at less.waves promise.net) promise)
heard_trims s less promise t =
    let here : IsTrim (wave_at s.waves promise.net) (wave_at less.waves promise.net) = trims_at s.waves less.waves t.waves promise.net in
    let P : Wave → Type 0 = λ v. IsTrim (heard_wave (wave_at s.waves promise.net) promise) (heard_wave v promise) in
    subst P (sym here.2) (heard_trim (wave_at s.waves promise.net) promise here.0 here.1)

-- ---- steps

some_of : (o : Option ℕ) → IsSome o → (k : ℕ) × (o ≡ Some k)
some_of None h = cc
some_of (Some k) h = (k, refl)

module _ (design : Design) (clustering : Clustering) (cluster : ℕ) (s less : Cluster) (of : IsClusterOf design clustering cluster less) (sound : IsSound less) (traces : AreTraces s.waves) (t : IsTrimOf s less) (net : ℕ) (own : IsOwnNet design clustering cluster net) where
  place : (k : ℕ) × (slot_of less.waves net ≡ Some k)
  place = some_of (slot_of less.waves net) (own_placed design clustering cluster less of net own)

  drives : Drives design less net place.0
  drives = drives_own design clustering cluster less of net place.0 place.1 own.own

  kept : IsKept design (told_from less.waves) net (wave_at less.waves net).clock (driver_of design.netlist net)
  kept = kept_here design less net place.0 drives sound

  -- the net's own wave is kept whole, and so it is the same
  whole : (wave_at less.waves net).base ≡ 0
  whole =
      let wave : (place.0 < length less.waves) × (get_or less.waves place.0 (new_wave 0) ≡ wave_at less.waves net) = slot_is less.waves net place.0 (new_wave 0) place.1 in
      sym (ap (λ w. w.base) wave.1) ∙ sound.whole place.0 (omega (arith, wave.0, sound.paired)) (driven-not_given design net (driver_of design.netlist net) (process_at less place.0) drives.process)

  here : (m : ℕ) → IsTrim (wave_at s.waves m) (wave_at less.waves m)
  here m = trims_at s.waves less.waves t.waves m

  same : wave_at less.waves net ≡ wave_at s.waves net
  same = (here net).2 ∙ trim_whole (here net).0 (wave_at s.waves net) (sym (ap (λ w. w.base) (here net).2) ∙ whole)

  clocks : (m : ℕ) → told_upto less.waves m ≡ told_upto s.waves m
  clocks m = ap (λ w. w.clock) (here m).2 ∙ trim_clock (here m).0 (wave_at s.waves m)

  reach : step_reach design less.waves (wave_at s.waves net).net ≡ step_reach design s.waves (wave_at s.waves net).net
  reach = λ i. reach_by design (λ m. clocks m i) (wave_at s.waves net).net

  levels : (m tick : ℕ) → told_from less.waves m ≤ tick → tick < told_upto less.waves m → told_level less.waves m tick ≡ told_level s.waves m tick
  levels m tick low high =
      let P : Wave → Type 0 = λ v. v.base ≤ tick → level_at v.kept v.changes tick ≡ level_at (wave_at s.waves m).kept (wave_at s.waves m).changes tick in
      subst P (sym (here m).2) (trim_levels (here m).0 (wave_at s.waves m) (trace_at s.waves traces m) tick) low

  changes : step_changes design less.waves (wave_at s.waves net) (step_reach design less.waves (wave_at s.waves net).net) ≡ step_changes design s.waves (wave_at s.waves net) (step_reach design less.waves (wave_at s.waves net).net)
  changes =
      let net_is : (wave_at s.waves net).net ≡ net = wave_at-net s.waves net in
      let K : Wave → Type 0 = λ w. IsKept design (told_from less.waves) net w.clock (driver_of design.netlist net) in
      let kept_there : IsKept design (told_from less.waves) net (wave_at s.waves net).clock (driver_of design.netlist net) = subst K same kept in
      let N : ℕ → Type 0 = λ n. IsKept design (told_from less.waves) n (wave_at s.waves net).clock (driver_of design.netlist n) in
      let needs : IsKept design (told_from less.waves) (wave_at s.waves net).net (wave_at s.waves net).clock (driver_of design.netlist (wave_at s.waves net).net) = subst N (sym net_is) kept_there in
      changes_between-agree _ _ (wave_at s.waves net).clock (step_reach design less.waves (wave_at s.waves net).net)
      (sym (before-continued (wave_at s.waves net) _ (wave_at s.waves net).clock refl) ∙ before-continued (wave_at s.waves net) _ (wave_at s.waves net).clock refl)
      (λ tick low high. let late : ltb tick (wave_at s.waves net).clock ≡ false = le-ltb _ _ low in
      rw late (driven_level-known design (told_level less.waves) (told_level s.waves) (told_from less.waves) (told_upto less.waves) levels (wave_at s.waves net).net (wave_at s.waves net).clock tick low (driver_of design.netlist (wave_at s.waves net).net) needs high))

  piece : step_piece design less.waves (wave_at s.waves net) ≡ step_piece design s.waves (wave_at s.waves net)
  piece =
      let all : step_changes design less.waves (wave_at s.waves net) (step_reach design less.waves (wave_at s.waves net).net) ≡ step_changes design s.waves (wave_at s.waves net) (step_reach design s.waves (wave_at s.waves net).net) = changes ∙ ap (step_changes design s.waves (wave_at s.waves net)) reach in
      λ i. record { net = (wave_at s.waves net).net; from = (wave_at s.waves net).clock; to = reach i; changes = all i }

  pub step_alike : step_answer design less.waves (wave_at less.waves net) ≡ step_answer design s.waves (wave_at s.waves net)
  step_alike = ap (step_answer design less.waves) same ∙ (λ i. cond (ltb (wave_at s.waves net).clock (reach i)) (Some (piece i)) None)

  pub step_trims : AreTrims (step_waves design s.waves (wave_at s.waves net)) (step_waves design less.waves (wave_at less.waves net))
  step_trims =
      let w : Wave = wave_at s.waves net in
      let after : step_waves design less.waves (wave_at less.waves net) ≡ cond (ltb w.clock (step_reach design s.waves w.net)) (with_wave less.waves (wave_with_piece w (step_piece design s.waves w))) less.waves =
      ap (step_waves design less.waves) same ∙ (λ i. cond (ltb w.clock (reach i)) (with_wave less.waves (wave_with_piece w (piece i))) less.waves)
      in
      subst (AreTrims (step_waves design s.waves w)) (sym after) (go (ltb w.clock (step_reach design s.waves w.net)))
    where
      go : (b : Bool) → AreTrims (cond b (with_wave s.waves (wave_with_piece (wave_at s.waves net) (step_piece design s.waves (wave_at s.waves net)))) s.waves) (cond b (with_wave less.waves (wave_with_piece (wave_at s.waves net) (step_piece design s.waves (wave_at s.waves net)))) less.waves)
      go true = trims_with s.waves less.waves _ _ t.waves (trim_same (wave_with_piece (wave_at s.waves net) (step_piece design s.waves (wave_at s.waves net))))
      go false = t.waves
