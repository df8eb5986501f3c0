-- What a cluster knows after a delivery, and that no call lowers a clock.
use Rattle.std.proofs.Common.{◌≡◌, ℕ, zero, suc, ◌+◌, ◌<◌, ◌≤◌, Bool, true, false, cond, eqb, ltb, leb, List, [], ◌∷◌, Option, Some, None, IsSome, Result, Ok, Err, refl, sym, ◌∙◌, ap, subst, arith, All}
use Rattle.std.specs.Prelude.{OnOk, OnErr, take, filter, is_some}
use Rattle.std.specs.List.{AllByRecursion, range_with_len}
use Rattle.std.specs.declared.alloc.AllocError.{AllocError}
use Rattle.std.proofs.lemmas.Bool.{le-leb, le-ltb, lt-leb, leb-false, ltb-true, eqb-true}
use Rattle.std.proofs.lemmas.List.Elements.{All-from_recursion}
use Rattle.cmb_wave.specs.Waveform.{at_or_after, clash, last_level}
use Rattle.cmb_wave.specs.Wave.{Piece, Wave, wave_up_to, wave_with_piece}
use Rattle.cmb_wave.specs.Calls.{heard_wave, joined, taken}
use Rattle.cmb_wave.specs.declared.level.Promise.{Promise}
use Rattle.cmb_wave.specs.declared.wave.WaveFault.{WaveFault}
use Rattle.cmb_wave.specs.declared.wave.WaveFault.TheVariants.{Old as WaveOld}
use Rattle.cmb_design_model.specs.Design.{Design}
use Rattle.cmb_design_model.specs.Exact.{IsExactIn, IsExactWaveIn, nets_of}
use Rattle.cmb_core_cluster.specs.Clustering.{Clustering, has_input}
use Rattle.cmb_core_cluster.specs.Clusters.{Cluster, as_delivery, delivered, delivered_at, input_slot, step_waves}
use Rattle.cmb_core_cluster.specs.Opened.{IsClusterOf, read_nets}
use Rattle.cmb_core_cluster.specs.Step.{step_piece, step_reach, wave_at, with_wave}
use Rattle.cmb_core_cluster.specs.Sweep.{stepped_waves}
use Rattle.cmb_core_cluster.specs.declared.delivery.DeliverFault.{DeliverFault}
use Rattle.cmb_core_cluster.specs.declared.delivery.DeliverFault.TheVariants.{Old}
use Rattle.cmb_core_cluster.proofs.ExactFacts.{never_clashes, taken_is}
use Rattle.cmb_core_cluster.proofs.OwnFacts.{input_read}
use Rattle.cmb_core_cluster.proofs.Inputs.{input_put, input_wave}
use Rattle.cmb_core_cluster.proofs.Replacing.{wave_at-with_other}
use Rattle.cmb_core_cluster.proofs.Steps.{wave_at-net}
use Rattle.cmb_run_exact.specs.Passed.{IsPassed}

-- a part of what the design defines that goes on from the wave's clock is taken
module _ (design : Design) (waves : List Wave) (all : AllByRecursion (IsExactWaveIn design) waves) (piece : Piece) (exact : IsExactIn design piece) (from : piece.from ≤ (wave_at waves piece.net).clock) (to : (wave_at waves piece.net).clock < piece.to) where
  takes : taken (wave_at waves piece.net) piece ≡ Ok (wave_with_piece (wave_at waves piece.net) piece)
  takes =
      let meets : ltb (wave_at waves piece.net).clock piece.from ≡ false = le-ltb _ _ from in
      let new : leb piece.to (wave_at waves piece.net).clock ≡ false = lt-leb _ _ to in
      rw (meets, new) (go (clash (last_level (wave_at waves piece.net).kept (wave_at waves piece.net).changes) (at_or_after (wave_at waves piece.net).clock piece.changes)) refl meets new)
    where
      go : (o : Option ℕ) → clash (last_level (wave_at waves piece.net).kept (wave_at waves piece.net).changes) (at_or_after (wave_at waves piece.net).clock piece.changes) ≡ o
          → ltb (wave_at waves piece.net).clock piece.from ≡ false → leb piece.to (wave_at waves piece.net).clock ≡ false
          → joined (wave_at waves piece.net) piece o ≡ Ok (wave_with_piece (wave_at waves piece.net) piece)
      go None e meets new = refl
      go (Some tick) e meets new = absurd (never_clashes design waves all piece exact tick (rw (meets, new, e) refl))

module _ (s : Cluster) (piece : Piece) (there : IsSome (input_slot s piece.net)) where
  abbrev longer : Wave
  longer = wave_with_piece (wave_at s.waves piece.net) piece

  pub delivers : taken (wave_at s.waves piece.net) piece ≡ Ok (wave_with_piece (wave_at s.waves piece.net) piece) → delivered s piece ≡ Ok (wave_with_piece (wave_at s.waves piece.net) piece)
  delivers takes' = go (input_slot s piece.net) refl there
    where
      go : (o : Option ℕ) → input_slot s piece.net ≡ o → IsSome o → delivered s piece ≡ Ok longer
      go None e h = cc
      go (Some slot) e h = ap (delivered_at s piece) e ∙ ap as_delivery takes'

  pub passes : (new : List Wave) → new ≡ with_wave s.waves (wave_with_piece (wave_at s.waves piece.net) piece) → IsPassed piece.net piece.to s.waves new
  passes new put = record {
    met = ap (λ ws. (wave_at ws piece.net).clock) put ∙ go (input_slot s piece.net) refl there;
    others = λ other ne. ap (λ ws. (wave_at ws other).clock) put ∙ ap (λ (w : Wave). w.clock) (wave_at-with_other s.waves longer other (λ q. ne (q ∙ wave_at-net s.waves piece.net)));
  }
    where
      go : (o : Option ℕ) → input_slot s piece.net ≡ o → IsSome o → (wave_at (with_wave s.waves longer) piece.net).clock ≡ piece.to
      go None e h = cc
      go (Some slot) e h =
          let in_place = input_put s piece.net slot longer e (ap (λ (w : Wave). w.net) (sym (input_wave s piece.net slot e))) in
          ap (λ ws. (wave_at ws piece.net).clock) (sym in_place.0) ∙ ap (λ (w : Wave). w.clock) in_place.1

pub delivers_exact : (design : Design) (s : Cluster) (piece : Piece) → AllByRecursion (IsExactWaveIn design) s.waves → IsExactIn design piece → IsSome (input_slot s piece.net) → piece.from ≤ (wave_at s.waves piece.net).clock → (wave_at s.waves piece.net).clock < piece.to → delivered s piece ≡ Ok (wave_with_piece (wave_at s.waves piece.net) piece)
delivers_exact design s piece all exact there from to = delivers s piece there (takes design s.waves all piece exact from to)

-- a part that ends by the wave's clock is refused as old
pub meets_old : (s : Cluster) (piece : Piece) → IsSome (input_slot s piece.net) → piece.from ≤ (wave_at s.waves piece.net).clock → piece.to ≤ (wave_at s.waves piece.net).clock → delivered s piece ≡ Err (Old (wave_at s.waves piece.net).clock)
meets_old s piece there from to = go (input_slot s piece.net) refl there
  where
    wave : Wave
    wave = wave_at s.waves piece.net

    is : taken wave piece ≡ Err (WaveOld wave.clock)
    is =
        let meets : ltb wave.clock piece.from ≡ false = le-ltb _ _ from in
        let past : leb piece.to wave.clock ≡ true = le-leb _ _ to in
        rw (meets, past) refl

    go : (o : Option ℕ) → input_slot s piece.net ≡ o → IsSome o → delivered s piece ≡ Err (Old wave.clock)
    go None e h = cc
    go (Some slot) e h = ap (delivered_at s piece) e ∙ ap as_delivery is

-- ---- no clock falls

-- a wave in the place of its net's, which is known no further
with_rises : (waves : List Wave) (w : Wave) → (wave_at waves w.net).clock ≤ w.clock → (net : ℕ) → (wave_at waves net).clock ≤ (wave_at (with_wave waves w) net).clock
with_rises [] w up net = omega arith
with_rises (x ∷ xs) w up net = go (eqb x.net w.net) refl up (λ h. with_rises xs w h net)
  where
    on_top : (b : Bool) → x.clock ≤ w.clock → (cond b x (wave_at xs net)).clock ≤ (cond b w (wave_at xs net)).clock
    on_top true h = h
    on_top false h = omega arith

    below : (b : Bool) → (wave_at xs net).clock ≤ (wave_at (with_wave xs w) net).clock → (cond b x (wave_at xs net)).clock ≤ (cond b x (wave_at (with_wave xs w) net)).clock
    below true h = omega arith
    below false h = h

    go : (a : Bool) → eqb x.net w.net ≡ a → (cond a x (wave_at xs w.net)).clock ≤ w.clock → ((wave_at xs w.net).clock ≤ w.clock → (wave_at xs net).clock ≤ (wave_at (with_wave xs w) net).clock) → (cond (eqb x.net net) x (wave_at xs net)).clock ≤ (wave_at (cond a (w ∷ xs) (x ∷ with_wave xs w)) net).clock
    go true e h rest =
        let same : eqb w.net net ≡ eqb x.net net = ap (λ n. eqb n net) (sym (eqb-true x.net w.net e)) in
        subst (λ (b : Bool). (cond b x (wave_at xs net)).clock ≤ (cond (eqb w.net net) w (wave_at xs net)).clock) same (on_top (eqb w.net net) h)
    go false e h rest = below (eqb x.net net) (rest h)

delivered_taken : (s : Cluster) (piece : Piece) (w : Wave) → delivered s piece ≡ Ok w → taken (wave_at s.waves piece.net) piece ≡ Ok w
delivered_taken s piece w e = at (input_slot s piece.net) e
  where
    as_taken : (t : Result Wave WaveFault) → as_delivery t ≡ Ok w → t ≡ Ok w
    as_taken (Ok v) q = cc
    as_taken (Err f) q = cc

    at : (o : Option ℕ) → delivered_at s piece o ≡ Ok w → taken (wave_at s.waves piece.net) piece ≡ Ok w
    at None q = cc
    at (Some slot) q = as_taken (taken (wave_at s.waves piece.net) piece) q

pub deliver_rises : (old new : Cluster) (piece : Piece) (r : Result ℕ DeliverFault) → OnOk r (delivered old piece ≡ Ok (wave_at new.waves piece.net)) → OnOk r (new.waves ≡ with_wave old.waves (wave_at new.waves piece.net)) → OnErr r (new ≡ old)
    → (net : ℕ) → (wave_at old.waves net).clock ≤ (wave_at new.waves net).clock
deliver_rises old new piece (Err f) ok put same net = rw same (omega arith)
deliver_rises old new piece (Ok n) ok put same net =
    let w : Wave = wave_at new.waves piece.net in
    let is = taken_is (wave_at old.waves piece.net) piece w (delivered_taken old piece w ok) in
    let own : w.net ≡ piece.net = wave_at-net new.waves piece.net in
    let further : (wave_at old.waves piece.net).clock ≤ w.clock = omega (arith, is.1, ap (λ (v : Wave). v.clock) is.2) in
    let up : (wave_at old.waves w.net).clock ≤ w.clock = subst (λ (n : ℕ). (wave_at old.waves n).clock ≤ w.clock) (sym own) further in
    subst (λ (ws : List Wave). (wave_at old.waves net).clock ≤ (wave_at ws net).clock) (sym put) (with_rises old.waves w up net)

pub hear_rises : (waves : List Wave) (promise : Promise) (net : ℕ) → (wave_at waves net).clock ≤ (wave_at (with_wave waves (heard_wave (wave_at waves promise.net) promise)) net).clock
hear_rises waves promise net = go (leb promise.upto (wave_at waves promise.net).clock) refl (eqb (wave_at waves promise.net).count promise.count)
  where
    first : Wave
    first = wave_at waves promise.net

    again : (wave_at waves first.net).clock ≡ first.clock
    again = ap (λ n. (wave_at waves n).clock) (wave_at-net waves promise.net)

    go : (a : Bool) → leb promise.upto first.clock ≡ a → (b : Bool) → (wave_at waves net).clock ≤ (wave_at (with_wave waves (cond a first (cond b (wave_up_to first promise.upto) first))) net).clock
    go true e b = with_rises waves first (omega (arith, again)) net
    go false e true = with_rises waves (wave_up_to first promise.upto) (omega (arith, again, leb-false _ _ e)) net
    go false e false = with_rises waves first (omega (arith, again)) net

step_rises : (design : Design) (waves : List Wave) (at net : ℕ) → (wave_at waves net).clock ≤ (wave_at (step_waves design waves (wave_at waves at)) net).clock
step_rises design waves at net = go (ltb first.clock (step_reach design waves first.net)) refl
  where
    first : Wave
    first = wave_at waves at

    again : (wave_at waves first.net).clock ≡ first.clock
    again = ap (λ n. (wave_at waves n).clock) (wave_at-net waves at)

    go : (b : Bool) → ltb first.clock (step_reach design waves first.net) ≡ b → (wave_at waves net).clock ≤ (wave_at (cond b (with_wave waves (wave_with_piece first (step_piece design waves first))) waves) net).clock
    go true e = with_rises waves (wave_with_piece first (step_piece design waves first)) (omega (arith, again, ltb-true _ _ e)) net
    go false e = omega arith

sweep_rises : (design : Design) (nets : List ℕ) (waves : List Wave) (net : ℕ) → (wave_at waves net).clock ≤ (wave_at (stepped_waves design waves nets) net).clock
sweep_rises design [] waves net = omega arith
sweep_rises design (first ∷ nets) waves net = omega (arith, step_rises design waves first net, sweep_rises design nets (step_waves design waves (wave_at waves first)) net)

pub step_all_rises : (design : Design) (nets : List ℕ) (old new : List Wave) (r : Result Bool AllocError) → OnOk r (new ≡ stepped_waves design old nets) → OnErr r ((first : ℕ) × (new ≡ stepped_waves design old (take first nets)))
    → (net : ℕ) → (wave_at old net).clock ≤ (wave_at new net).clock
step_all_rises design nets old new (Ok rose) all some net = rw all (sweep_rises design nets old net)
step_all_rises design nets old new (Err e) all some net = rw some.1 (sweep_rises design (take some.0 nets) old net)

-- ---- the nets that a cluster is given

module _ (design : Design) (clustering : Clustering) (cluster : ℕ) (s : Cluster) (of : IsClusterOf design clustering cluster s) where
  given_one : (net : ℕ) → net < nets_of design → has_input design clustering cluster net ≡ true → IsSome (input_slot s net)
  given_one net there reads = some (input_slot s net) (input_read design clustering cluster s of net there ∙ reads)
    where
      some : (o : Option ℕ) → is_some o ≡ true → IsSome o
      some None e = cc
      some (Some k) e = refl

  given_range : (a n : ℕ) → a + n ≤ nets_of design → AllByRecursion (λ net. IsSome (input_slot s net)) (filter (has_input design clustering cluster) (range_with_len a n))
  given_range a zero within = tt
  given_range a (suc n) within = go (has_input design clustering cluster a) refl (given_range (a + 1) n (omega arith))
    where
      go : (b : Bool) → has_input design clustering cluster a ≡ b → AllByRecursion (λ net. IsSome (input_slot s net)) (filter (has_input design clustering cluster) (range_with_len (a + 1) n))
          → AllByRecursion (λ net. IsSome (input_slot s net)) (cond b (a ∷ filter (has_input design clustering cluster) (range_with_len (a + 1) n)) (filter (has_input design clustering cluster) (range_with_len (a + 1) n)))
      go true e rest = (given_one a (omega arith) e, rest)
      go false e rest = rest

  pub all_given : (nets : List ℕ) → nets ≡ read_nets design clustering cluster → All (λ net. IsSome (input_slot s net)) nets
  all_given nets e = All-from_recursion (λ net. IsSome (input_slot s net)) nets (subst (AllByRecursion (λ net. IsSome (input_slot s net))) (sym e) (given_range 0 (nets_of design) (omega arith)))
