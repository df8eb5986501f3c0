-- Exact waves stay exact under the calls of a cluster.
use Rattle.std.proofs.Common.{◌≡◌, ℕ, suc, ◌+◌, ◌-◌, ◌<◌, ◌≤◌, Bool, true, false, cond, eqb, ltb, leb, List, [], ◌∷◌, ◌⊎◌, inl, inr, length, get_or, map, Option, Some, None, Result, Ok, Err, IfSome, IfOk, OnOk, OnErr, IsSome, refl, sym, ◌∙◌, ap, subst, arith}
use Rattle.std.specs.Prelude.{All}
use Rattle.std.specs.List.{AllByRecursion}
use Rattle.std.proofs.lemmas.List.Elements.{All-from_recursion, All-get_or, recursion_from_All}
use Rattle.std.proofs.lemmas.Bool.{lt-ltb, le-ltb, le-leb, ltb-true, ltb-false, leb-false, eqb-false, cases_lt, cases_eq}
use Rattle.cmb_wave.specs.declared.level.Change.{Change}
use Rattle.cmb_wave.specs.declared.level.Promise.{Promise}
use Rattle.cmb_wave.specs.declared.wave.WaveFault.{WaveFault}
use Rattle.cmb_wave.specs.declared.wave.WaveFault.TheVariants.{Gap as WaveGap, Old as WaveOld, Clash as WaveClash, Memory as WaveMemory}
use Rattle.cmb_wave.specs.Waveform.{last_level, level_at, level_before, at_or_after, clash}
use Rattle.cmb_wave.specs.Wave.{Piece, Wave, IsExactPiece, IsExactWave, IsRightPromise, new_wave, wave_with_piece, wave_from, cut_of}
use Rattle.cmb_wave.specs.Calls.{joined, taken, heard_wave, cut}
use Rattle.cmb_wave.proofs.Spans.{clash-none}
use Rattle.cmb_wave.proofs.Waves.{with_piece-exact, added-alternates, heard-exact, from-exact, cut-exact}
use Rattle.cmb_netlist.specs.declared.netlist.Driver.{Driver}
use Rattle.cmb_netlist.specs.declared.netlist.Driver.TheVariants.{Input as InputNet, Gate as GateNet, Flop as FlopNet}
use Rattle.cmb_netlist.specs.Netlist.{driver_of}
use Rattle.cmb_design_model.specs.Design.{Design}
use Rattle.cmb_design_model.specs.Exact.{nets_of, IsExactIn, IsExactWaveIn, IsRightIn}
use Rattle.cmb_design_model.specs.Timing.{delay, clock_of, initial_level, last_sample}
use Rattle.cmb_design_model.specs.Value.{value}
use Rattle.cmb_core_cluster.specs.declared.process.ProcessPin.{ProcessPin}
use Rattle.cmb_core_cluster.specs.declared.process.ProcessRule.{ProcessRule}
use Rattle.cmb_core_cluster.specs.declared.process.ProcessRule.TheVariants.{Flop}
use Rattle.cmb_core_cluster.specs.declared.delivery.DeliverFault.{DeliverFault}
use Rattle.cmb_core_cluster.specs.declared.delivery.DeliverFault.TheVariants.{Stranger, Gap, Old, Clash, Memory}
use Rattle.cmb_core_cluster.specs.Clustering.{Clustering, cluster_of}
use Rattle.cmb_core_cluster.specs.Clusters.{Cluster, IsSound, IsSameButWaves, IsDrivenBy, AreOperands, process_at, slot_wave, step_answer, step_waves, as_delivery, delivered_at, delivered, RefusesDelivery}
use Rattle.cmb_core_cluster.specs.Inner.Spans.{new_waves_at, reach_at}
use Rattle.cmb_core_cluster.specs.Exactness.{IsExactCluster}
use Rattle.cmb_core_cluster.specs.Opened.{IsClusterOf, held_nets}
use Rattle.cmb_core_cluster.specs.Reach.{flop_need, AreKept, IsKept}
use Rattle.cmb_core_cluster.specs.Rows.{Process, AreReady, IsReadyFor, sample_need, slot_of}
use Rattle.cmb_core_cluster.specs.Step.{wave_at, told_from, step_reach, step_piece, with_wave}
use Rattle.cmb_core_cluster.specs.Trims.{trimmed, IsTrim, AreTrims}
use Rattle.cmb_core_cluster.proofs.Driven.{Drives, step_waves_are}
use Rattle.cmb_core_cluster.proofs.OpenedFacts.{held_below}
use Rattle.cmb_core_cluster.proofs.Slots.{slot_is}
use Rattle.cmb_core_cluster.proofs.Steps.{wave_at-net, wave_at-exact, step_piece-is_exact}
use Rattle.cmb_core_cluster.proofs.NetByNet.{still_of, drives_here, given_reach, long}
use Rattle.cmb_core_cluster.proofs.TrimFacts.{trimmed_trims}
use Rattle.cmb_core_cluster.proofs.Replacing.{all-with}

-- ---- by the result of a call

pub by_result : {A E : Type 0} (r : Result A E) (X Y P : Type 0) → OnOk r X → OnErr r Y → (X → P) → (Y → P) → P
by_result (Ok a) X Y P x y f g = f x
by_result (Err e) X Y P x y f g = g y

pub if_ok : {A E : Type 0} (r : Result A E) (P Q : A → Type 0) → IfOk r P → ((a : A) → P a → Q a) → IfOk r Q
if_ok (Ok a) P Q h f = f a h
if_ok (Err e) P Q h f = tt

pub none_some : {A : Type 0} (o : Option A) → o ≡ None → IsSome o → ⊥
none_some None e h = cc
none_some (Some a) e h = cc

-- ---- what a process still needs is kept

need_same : (design : Design) (net clock : ℕ) → sample_need (clock_of design net).first (clock_of design net).period (delay design net 1) clock ≤ flop_need design net clock
unfolding last_sample
need_same design net clock = go (cases_lt clock ((clock_of design net).first + delay design net 1)) (cases_lt (clock - delay design net 1) (clock_of design net).first)
  where
    go : (clock < (clock_of design net).first + delay design net 1) ⊎ ((clock_of design net).first + delay design net 1 ≤ clock) → (clock - delay design net 1 < (clock_of design net).first) ⊎ ((clock_of design net).first ≤ clock - delay design net 1)
        → sample_need (clock_of design net).first (clock_of design net).period (delay design net 1) clock ≤ flop_need design net clock
    go (inl early) _ = let a : ltb clock ((clock_of design net).first + delay design net 1) ≡ true = lt-ltb _ _ early in rw a (omega arith)
    go (inr late) (inl before) = absurd (omega arith)
    go (inr late) (inr after) =
        let a : ltb clock ((clock_of design net).first + delay design net 1) ≡ false = le-ltb _ _ late in
        let b : ltb (clock - delay design net 1) (clock_of design net).first ≡ false = le-ltb _ _ after in
        rw (a, b) (omega arith)

module _ (design : Design) (waves : List Wave) (net clock : ℕ) where
  gate_kept : (pin : ℕ) (sources : List ℕ) (os : List ProcessPin) → AreOperands design net pin sources os → AreReady waves clock os → AreKept design (told_from waves) net clock pin sources
  gate_kept pin [] [] a r = tt
  gate_kept pin (source ∷ sources) (o ∷ os) a r =
      let same : (wave_at waves o.net).base ≡ (wave_at waves source).base = ap (λ n. (wave_at waves n).base) a.0 in
      let late : o.delay ≡ delay design net pin = a.1 in
      let kept : (wave_at waves o.net).base ≤ clock - o.delay = r.0.1 in
      (omega (arith, same, late, kept), gate_kept (suc pin) sources os a.2 r.1)
  gate_kept pin [] (o ∷ os) a r = absurd a
  gate_kept pin (source ∷ sources) [] a r = absurd a

  flop_kept : (source : ℕ) (os : List ProcessPin) (cs : List Change) → AreOperands design net 1 (source ∷ []) os → IsReadyFor waves clock (Flop (clock_of design net).first (clock_of design net).period (initial_level design net)) os cs → told_from waves source ≤ flop_need design net clock
  flop_kept source [] cs a r = absurd a
  flop_kept source (o ∷ []) cs a r =
      let same : (wave_at waves o.net).base ≡ (wave_at waves source).base = ap (λ n. (wave_at waves n).base) a.0 in
      let kept : (wave_at waves o.net).base ≤ sample_need (clock_of design net).first (clock_of design net).period o.delay clock = r.2 in
      let late : sample_need (clock_of design net).first (clock_of design net).period o.delay clock ≡ sample_need (clock_of design net).first (clock_of design net).period (delay design net 1) clock = ap (λ d. sample_need (clock_of design net).first (clock_of design net).period d clock) a.1 in
      let need : sample_need (clock_of design net).first (clock_of design net).period (delay design net 1) clock ≤ flop_need design net clock = need_same design net clock in
      let P : ℕ → Type 0 = λ n. n ≤ flop_need design net clock in
      let Q : ℕ → Type 0 = λ n. (wave_at waves o.net).base ≤ n in
      subst P same (at_most _ _ _ (subst Q late kept) need)
    where
      at_most : (a b c : ℕ) → a ≤ b → b ≤ c → a ≤ c
      at_most a b c h k = omega (arith, h, k)
  flop_kept source (o ∷ q ∷ os) cs a r = absurd a.2

  kept_by : (driver : Driver) (p : Process) → IsDrivenBy design net driver p → IsReadyFor waves clock p.rule p.operands p.stimulus → IsKept design (told_from waves) net clock driver
  kept_by InputNet p d r = tt
  kept_by (GateNet kind sources) p d r =
      let R : ProcessRule → Type 0 = λ rule. IsReadyFor waves clock rule p.operands p.stimulus in
      gate_kept 1 sources p.operands d.1 (subst R d.0 r).1
  kept_by (FlopNet source) p d r =
      let R : ProcessRule → Type 0 = λ rule. IsReadyFor waves clock rule p.operands p.stimulus in
      flop_kept source p.operands p.stimulus d.1 (subst R d.0 r)

pub kept_here : (design : Design) (s : Cluster) (net slot : ℕ) → Drives design s net slot → IsSound s → IsKept design (told_from s.waves) net (wave_at s.waves net).clock (driver_of design.netlist net)
kept_here design s net slot d sound =
    let wave : (slot < length s.waves) × (get_or s.waves slot (new_wave 0) ≡ wave_at s.waves net) = slot_is s.waves net slot (new_wave 0) d.here in
    let here : slot < length s.processes = omega (arith, wave.0, sound.paired) in
    let K : ℕ → Type 0 = λ clock. IsKept design (told_from s.waves) net clock (driver_of design.netlist net) in
    subst K (ap (λ w. w.clock) wave.1) (kept_by design s.waves net (slot_wave s slot).clock (driver_of design.netlist net) (process_at s slot) d.process (sound.ready slot here))

-- ---- a step

module _ (design : Design) (waves : List Wave) (net : ℕ) (all : AllByRecursion (IsExactWaveIn design) waves) (there : net < nets_of design) (kept : IsKept design (told_from waves) net (wave_at waves net).clock (driver_of design.netlist net)) where
  wave_exact : IsExactWaveIn design (wave_at waves net)
  wave_exact = wave_at-exact design waves all net there

  piece_exact : (wave_at waves net).clock < step_reach design waves (wave_at waves net).net → IsExactIn design (step_piece design waves (wave_at waves net))
  piece_exact above =
      let same : (wave_at waves net).net ≡ net = wave_at-net waves net in
      let K : ℕ → Type 0 = λ n. IsKept design (told_from waves) n (wave_at waves net).clock (driver_of design.netlist n) in
      step_piece-is_exact design waves (wave_at waves net) all wave_exact (subst K (sym same) kept) above

  pub stepped_exact : AllByRecursion (IsExactWaveIn design) (step_waves design waves (wave_at waves net))
  stepped_exact = go (ltb (wave_at waves net).clock (step_reach design waves (wave_at waves net).net)) refl
    where
      go : (b : Bool) → ltb (wave_at waves net).clock (step_reach design waves (wave_at waves net).net) ≡ b → AllByRecursion (IsExactWaveIn design) (cond b (with_wave waves (wave_with_piece (wave_at waves net) (step_piece design waves (wave_at waves net)))) waves)
      go true e =
          let above : (wave_at waves net).clock < step_reach design waves (wave_at waves net).net = ltb-true _ _ e in
          let piece : IsExactIn design (step_piece design waves (wave_at waves net)) = piece_exact above in
          all-with (IsExactWaveIn design) waves (wave_with_piece (wave_at waves net) (step_piece design waves (wave_at waves net)))
          (record { net = wave_exact.net; exact = with_piece-exact (value design (wave_at waves net).net) design.horizon (wave_at waves net) wave_exact.exact (step_piece design waves (wave_at waves net)) piece.exact (omega arith) (omega (arith, above)) })
          all
      go false e = all

  pub part_exact : IfSome (step_answer design waves (wave_at waves net)) (IsExactIn design)
  part_exact = go (ltb (wave_at waves net).clock (step_reach design waves (wave_at waves net).net)) refl
    where
      go : (b : Bool) → ltb (wave_at waves net).clock (step_reach design waves (wave_at waves net).net) ≡ b → IfSome (cond b (Some (step_piece design waves (wave_at waves net))) None) (IsExactIn design)
      go true e = piece_exact (ltb-true _ _ e)
      go false e = tt

-- the step of whatever wave has this place
pub moved_exact : (design : Design) (clustering : Clustering) (cluster : ℕ) (s : Cluster) → IsClusterOf design clustering cluster s → IsSound s → AllByRecursion (IsExactWaveIn design) s.waves → (i : ℕ) → i < length s.waves
    → ((slot_wave s i).clock < reach_at s i → last_level (slot_wave s i).kept (slot_wave s i).changes ≡ level_before (level_at (slot_wave s i).kept (slot_wave s i).changes) (slot_wave s i).clock)
    → AllByRecursion (IsExactWaveIn design) (new_waves_at s i)
moved_exact design clustering cluster s of sound all i h before = go (cases_eq (cluster_of clustering (get_or (held_nets design clustering cluster) i 0)) cluster)
  where
    go : (cluster_of clustering (get_or (held_nets design clustering cluster) i 0) ≡ cluster) ⊎ (cluster_of clustering (get_or (held_nets design clustering cluster) i 0) ≡ cluster → ⊥) → AllByRecursion (IsExactWaveIn design) (new_waves_at s i)
    go (inl own) =
        let net : ℕ = get_or (held_nets design clustering cluster) i 0 in
        let d : Drives design s net i = drives_here design clustering cluster s of i h own in
        subst (AllByRecursion (IsExactWaveIn design)) (sym (step_waves_are design s net i d before)) (stepped_exact design s.waves net all (held_below design clustering cluster i 0 (long design clustering cluster s of i h)) (kept_here design s net i d sound))
    go (inr other) =
        let still : leb (reach_at s i) (slot_wave s i).clock ≡ true = le-leb _ _ (omega (arith, given_reach design clustering cluster s of i h other)) in
        rw still all

-- ---- a delivery

pub taken_is : (wave : Wave) (piece : Piece) (w : Wave) → taken wave piece ≡ Ok w → (piece.from ≤ wave.clock) × (wave.clock < piece.to) × (w ≡ wave_with_piece wave piece)
taken_is wave piece w e = go (ltb wave.clock piece.from) refl (leb piece.to wave.clock) refl (clash (last_level wave.kept wave.changes) (at_or_after wave.clock piece.changes)) e
  where
    go : (gap : Bool) → ltb wave.clock piece.from ≡ gap → (old : Bool) → leb piece.to wave.clock ≡ old → (o : Option ℕ) → cond gap (Err (WaveGap wave.clock)) (cond old (Err (WaveOld wave.clock)) (joined wave piece o)) ≡ Ok w → (piece.from ≤ wave.clock) × (wave.clock < piece.to) × (w ≡ wave_with_piece wave piece)
    go true a old b o q = cc
    go false a true b o q = cc
    go false a false b (Some tick) q = cc
    go false a false b None q = (ltb-false _ _ a, leb-false _ _ b, cc)

module _ (design : Design) (waves : List Wave) (all : AllByRecursion (IsExactWaveIn design) waves) (piece : Piece) (exact : IsExactIn design piece) where
  input_exact : IsExactWaveIn design (wave_at waves piece.net)
  input_exact = wave_at-exact design waves all piece.net exact.net

  as_wave : IsExactPiece (value design (wave_at waves piece.net).net) design.horizon piece
  as_wave = let P : ℕ → Type 0 = λ n. IsExactPiece (value design n) design.horizon piece in subst P (sym (wave_at-net waves piece.net)) exact.exact

  pub taken_exact : (w : Wave) → taken (wave_at waves piece.net) piece ≡ Ok w → IsExactWaveIn design w
  taken_exact w e =
      let t : (piece.from ≤ (wave_at waves piece.net).clock) × ((wave_at waves piece.net).clock < piece.to) × (w ≡ wave_with_piece (wave_at waves piece.net) piece) = taken_is (wave_at waves piece.net) piece w e in
      subst (IsExactWaveIn design) (sym t.2) (record {
        net = input_exact.net;
        exact = with_piece-exact (value design (wave_at waves piece.net).net) design.horizon (wave_at waves piece.net) input_exact.exact piece as_wave t.0 (omega (arith, t.1));
      })

  pub never_clashes : (tick : ℕ) → taken (wave_at waves piece.net) piece ≡ Err (WaveClash tick) → ⊥
  never_clashes tick e = go (ltb (wave_at waves piece.net).clock piece.from) refl (leb piece.to (wave_at waves piece.net).clock) refl e
    where
      go : (gap : Bool) → ltb (wave_at waves piece.net).clock piece.from ≡ gap → (old : Bool) → leb piece.to (wave_at waves piece.net).clock ≡ old
          → cond gap (Err (WaveGap (wave_at waves piece.net).clock)) (cond old (Err (WaveOld (wave_at waves piece.net).clock)) (joined (wave_at waves piece.net) piece (clash (last_level (wave_at waves piece.net).kept (wave_at waves piece.net).changes) (at_or_after (wave_at waves piece.net).clock piece.changes)))) ≡ Err (WaveClash tick) → ⊥
      go true a old b q = cc
      go false a true b q = cc
      go false a false b q =
          let from : piece.from ≤ (wave_at waves piece.net).clock = ltb-false _ _ a in
          let to : (wave_at waves piece.net).clock < piece.to = leb-false _ _ b in
          let calm : clash (last_level (wave_at waves piece.net).kept (wave_at waves piece.net).changes) (at_or_after (wave_at waves piece.net).clock piece.changes) ≡ None = clash-none _ _ (added-alternates (value design (wave_at waves piece.net).net) design.horizon (wave_at waves piece.net) input_exact.exact piece as_wave from (omega (arith, to))) in
          let no : Ok (wave_with_piece (wave_at waves piece.net) piece) ≡ Err (WaveClash tick) = sym (ap (joined (wave_at waves piece.net) piece) calm) ∙ q in
          cc

delivered_taken : (s : Cluster) (piece : Piece) (slot : Option ℕ) (w : Wave) → delivered_at s piece slot ≡ Ok w → taken (wave_at s.waves piece.net) piece ≡ Ok w
delivered_taken s piece None w e = cc
delivered_taken s piece (Some slot) w e = go (taken (wave_at s.waves piece.net) piece) e
  where
    go : (r : Result Wave WaveFault) → as_delivery r ≡ Ok w → r ≡ Ok w
    go (Ok v) q = let same : v ≡ w = cc in ap (λ x. Ok x) same
    go (Err f) q = cc

delivered_clash : (s : Cluster) (piece : Piece) (slot : Option ℕ) (tick : ℕ) → delivered_at s piece slot ≡ Err (Clash tick) → taken (wave_at s.waves piece.net) piece ≡ Err (WaveClash tick)
delivered_clash s piece None tick e = cc
delivered_clash s piece (Some slot) tick e = go (taken (wave_at s.waves piece.net) piece) e
  where
    go : (r : Result Wave WaveFault) → as_delivery r ≡ Err (Clash tick) → r ≡ Err (WaveClash tick)
    go (Ok v) q = cc
    go (Err (WaveGap t)) q = cc
    go (Err (WaveOld t)) q = cc
    go (Err (WaveClash t)) q = let same : t ≡ tick = cc in ap (λ x. Err (WaveClash x)) same
    go (Err WaveMemory) q = cc

pub deliver_exact : (design : Design) (s : Cluster) (piece : Piece) (w : Wave) → AllByRecursion (IsExactWaveIn design) s.waves → IsExactIn design piece → delivered s piece ≡ Ok w → AllByRecursion (IsExactWaveIn design) (with_wave s.waves w)
deliver_exact design s piece w all exact e =
    all-with (IsExactWaveIn design) s.waves w (taken_exact design s.waves all piece exact w (delivered_taken s piece _ w e)) all

pub deliver_calm : (design : Design) (s : Cluster) (piece : Piece) → AllByRecursion (IsExactWaveIn design) s.waves → IsExactIn design piece → (fault : DeliverFault) → RefusesDelivery fault (delivered s piece) → (tick : ℕ) → fault ≡ Clash tick → ⊥
deliver_calm design s piece all exact Stranger r tick e = cc
deliver_calm design s piece all exact (Gap clock) r tick e = cc
deliver_calm design s piece all exact (Old clock) r tick e = cc
deliver_calm design s piece all exact (Clash t) r tick e = never_clashes design s.waves all piece exact t (delivered_clash s piece _ t r)
deliver_calm design s piece all exact Memory r tick e = cc

-- ---- a promise heard

pub heard_exact : (design : Design) (waves : List Wave) (promise : Promise) → AllByRecursion (IsExactWaveIn design) waves → IsRightIn design promise → AllByRecursion (IsExactWaveIn design) (with_wave waves (heard_wave (wave_at waves promise.net) promise))
heard_exact design waves promise all right =
    let wave : IsExactWaveIn design (wave_at waves promise.net) = wave_at-exact design waves all promise.net right.net in
    let P : ℕ → Type 0 = λ n. IsRightPromise (value design n) design.horizon promise in
    let own : P promise.net = record { within = right.within; count = right.count } in
    let heard : IsExactWave (value design (wave_at waves promise.net).net) design.horizon (heard_wave (wave_at waves promise.net) promise) = heard-exact (value design (wave_at waves promise.net).net) design.horizon (wave_at waves promise.net) wave.exact promise (subst P (sym (wave_at-net waves promise.net)) own) in
    all-with (IsExactWaveIn design) waves (heard_wave (wave_at waves promise.net) promise) (of_net (leb promise.upto (wave_at waves promise.net).clock) (eqb (wave_at waves promise.net).count promise.count) wave.net heard) all
  where
    of_net : (a b : Bool) → (wave_at waves promise.net).net < nets_of design → IsExactWave (value design (wave_at waves promise.net).net) design.horizon (cond a (wave_at waves promise.net) (cond b (record (wave_at waves promise.net) { clock = promise.upto }) (wave_at waves promise.net)))
        → IsExactWaveIn design (cond a (wave_at waves promise.net) (cond b (record (wave_at waves promise.net) { clock = promise.upto }) (wave_at waves promise.net)))
    of_net true b n e = record { net = n; exact = e }
    of_net false true n e = record { net = n; exact = e }
    of_net false false n e = record { net = n; exact = e }

-- ---- a trim

trim_exact : (design : Design) (w v : Wave) → IsTrim w v → IsExactWaveIn design w → IsExactWaveIn design v
trim_exact design w v t exact = subst (IsExactWaveIn design) (sym t.2) (go (ltb w.base t.0) refl)
  where
    go : (more : Bool) → ltb w.base t.0 ≡ more → IsExactWaveIn design (cond more (wave_from w t.0) w)
    go false e = exact
    go true e = record { net = exact.net; exact = from-exact (value design w.net) design.horizon w exact.exact t.0 (omega (arith, ltb-true _ _ e)) t.1 }

trims_exact : (design : Design) (ws vs : List Wave) → AreTrims ws vs → AllByRecursion (IsExactWaveIn design) ws → AllByRecursion (IsExactWaveIn design) vs
trims_exact design [] [] t all = tt
trims_exact design (w ∷ ws) (v ∷ vs) t all = (trim_exact design w v t.0 all.0, trims_exact design ws vs t.1 all.1)
trims_exact design [] (v ∷ vs) t all = absurd t
trims_exact design (w ∷ ws) [] t all = absurd t

pub trimmed_exact : (design : Design) (s : Cluster) → AllByRecursion (IsExactWaveIn design) s.waves → AllByRecursion (IsExactWaveIn design) (trimmed s).waves
trimmed_exact design s all = trims_exact design s.waves (trimmed s).waves (trimmed_trims s) all

-- ---- what is sent

pub sent_exact : (design : Design) (wave : Wave) → IsExactWaveIn design wave → (from : ℕ) → wave.base ≤ from → from ≤ wave.clock → IfSome (cut wave from) (IsExactIn design)
sent_exact design wave exact from low high = go (eqb from wave.clock) refl
  where
    go : (b : Bool) → eqb from wave.clock ≡ b → IfSome (cond b None (Some (cut_of wave from))) (IsExactIn design)
    go true e = tt
    go false e = record {
      net = exact.net;
      exact = record {
        not_empty = let ne : from ≡ wave.clock → ⊥ = eqb-false _ _ e in omega arith;
        within = exact.exact.within;
        changes = cut-exact (value design wave.net) design.horizon wave exact.exact from low high;
      };
    }

-- the wave of a net that has a place
pub placed_exact : (design : Design) (waves : List Wave) (net slot : ℕ) → AllByRecursion (IsExactWaveIn design) waves → slot_of waves net ≡ Some slot → IsExactWaveIn design (wave_at waves net)
placed_exact design waves net slot all e =
    let wave : (slot < length waves) × (get_or waves slot (new_wave 0) ≡ wave_at waves net) = slot_is waves net slot (new_wave 0) e in
    subst (IsExactWaveIn design) wave.1 (All-get_or (IsExactWaveIn design) waves slot (new_wave 0) wave.0 (All-from_recursion (IsExactWaveIn design) waves all))

-- a cluster whose waves are exact after a call
pub still_exact : (design : Design) (clustering : Clustering) (cluster : ℕ) (old new : Cluster) → IsSameButWaves old new → IsExactCluster design clustering cluster old → AllByRecursion (IsExactWaveIn design) new.waves → IsExactCluster design clustering cluster new
still_exact design clustering cluster old new same exact all = record { of = still_of design clustering cluster old new same exact.of; waves = all }

-- new waves are exact
pub new_exact : (design : Design) (nets : List ℕ) → All (λ net. net < nets_of design) nets → AllByRecursion (IsExactWaveIn design) (map new_wave nets)
new_exact design nets all = go nets (recursion_from_All (λ net. net < nets_of design) nets all)
  where
    go : (nets : List ℕ) → AllByRecursion (λ net. net < nets_of design) nets → AllByRecursion (IsExactWaveIn design) (map new_wave nets)
    go [] below = tt
    go (net ∷ nets) below = (wave_at-exact design [] tt net below.0, go nets below.1)
