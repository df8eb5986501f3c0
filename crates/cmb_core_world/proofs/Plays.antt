-- An event on a world of clusters is that event on its waves, and the world stays one of its design.
use Rattle.std.proofs.Common.{◌≡◌, ℕ, ◌<◌, ◌≤◌, Bool, true, false, cond, ltb, leb, eqb, length, List, [], ◌∷◌, ◌⊎◌, inl, inr, get_or, set, Option, Some, None, Result, Ok, Err, refl, sym, ◌∙◌, ap, subst, arith, get_or-set_other, length-set}
use Rattle.std.specs.Prelude.{is_some, IsOk, slice_get}
use Rattle.std.proofs.lemmas.Option.{slice_get_within, slice_get-get_or, get_or_from_slice_get}
use Rattle.std.proofs.lemmas.List.{get_or-map, map-set}
use Rattle.std.proofs.lemmas.Bool.{lt-ltb, le-ltb, eq-eqb, cases_eq, cases_lt}
use Rattle.std.proofs.Math.Seq.{map-set_same}
use Rattle.cmb_wave.specs.declared.level.Promise.{Promise}
use Rattle.cmb_wave.specs.declared.level.Heard.{Heard}
use Rattle.cmb_wave.specs.declared.level.Heard.TheVariants.{Old as HeardOld, Extended, Ahead}
use Rattle.cmb_wave.specs.declared.wave.WaveFault.TheVariants.{Gap as WaveGap, Old as WaveOld}
use Rattle.cmb_wave.specs.Waveform.{last_level, at_or_after, clash}
use Rattle.cmb_wave.specs.Wave.{Wave, Piece, wave_with_piece, wave_up_to}
use Rattle.cmb_wave.specs.Calls.{joined, hears, heard_wave}
use Rattle.cmb_design_model.specs.Design.{Design}
use Rattle.cmb_design_model.specs.Exact.{nets_of}
use Rattle.cmb_core_protocol.specs.declared.event.Event.TheVariants.{Step, Deliver, Look}
use Rattle.cmb_core_protocol.specs.declared.event.Reply.TheVariants.{Stepped, Delivered, Looked}
use Rattle.cmb_core_protocol.specs.declared.event.PlayFault.TheVariants.{Stranger as PlayStranger, Gap as PlayGap, Old as PlayOld}
use Rattle.cmb_core_cluster.specs.declared.delivery.DeliverFault.{DeliverFault}
use Rattle.cmb_core_cluster.specs.declared.delivery.DeliverFault.TheVariants.{Stranger, Gap, Old, Clash, Memory}
use Rattle.cmb_core_cluster.specs.declared.delivery.Stranger.{Stranger as NoWave}
use Rattle.cmb_core_cluster.specs.Rows.{Process}
use Rattle.cmb_core_cluster.specs.Clustering.{Clustering, cluster_of, has_input}
use Rattle.cmb_core_cluster.specs.Step.{wave_at, step_reach, step_piece, with_wave}
use Rattle.cmb_core_cluster.specs.Clusters.{Cluster, step_answer, step_waves, input_slot, IsDrivenHere, delivered, delivered_at, as_delivery, heard_at, told_at, RefusesDelivery}
use Rattle.cmb_core_cluster.specs.Opened.{IsClusterOf, IsOwnNet}
use Rattle.cmb_core_world.specs.World.{WorldWaves, Played, answered, turned_down, taken_in as took, deliver_in, look_in, waves_of, out_wave, in_wave, play_world}
use Rattle.cmb_core_world.specs.Play.{World, shown, cluster_at, home_wave, IsWorldOf, HasDesign, IsSameBut, Plays, takes_memory, known_in}
use Rattle.cmb_core_cluster.proofs.Steps.{wave_at-net}
use Rattle.cmb_core_cluster.proofs.NetByNet.{still_of}
use Rattle.cmb_core_cluster.proofs.Homes.{input_home}
use Rattle.cmb_core_cluster.proofs.OwnFacts.{own_driven}
use Rattle.cmb_core_world.specs.Inner.Faults.{fault_of_event}

-- ---- waves of clusters

-- a wave in its own place
pub with_wave_at : (waves : List Wave) (net : ℕ) → with_wave waves (wave_at waves net) ≡ waves
with_wave_at [] net = refl
with_wave_at (x ∷ xs) net = go (eqb x.net net) refl (with_wave_at xs net)
  where
    go : (b : Bool) → eqb x.net net ≡ b → with_wave xs (wave_at xs net) ≡ xs → cond (eqb x.net (cond b x (wave_at xs net)).net) (cond b x (wave_at xs net) ∷ xs) (x ∷ with_wave xs (cond b x (wave_at xs net))) ≡ x ∷ xs
    go true e rest = let same : eqb x.net x.net ≡ true = eq-eqb x.net x.net refl in rw same refl
    go false e rest = let other : eqb x.net (wave_at xs net).net ≡ false = ap (eqb x.net) (wave_at-net xs net) ∙ e in rw other (ap (λ ws. x ∷ ws) rest)

-- the waves of a cluster that is there
pub waves_are : (w : World) (c : ℕ) → c < length w.clusters → waves_of (shown w) c ≡ (cluster_at w c).waves
waves_are w c h = get_or-map (λ (cluster : Cluster). cluster.waves) w.clusters c (record { horizon = 0; processes = []; waves = [] }) [] h

-- the world with other waves in one cluster
abbrev pub with_waves : WorldWaves → ℕ → List Wave → WorldWaves
with_waves world c waves = record world { clusters = set world.clusters c waves }

pub shown_with : (w new : World) (c : ℕ) → IsSameBut c w new → shown new ≡ with_waves (shown w) c (cluster_at new c).waves
shown_with w new c s =
    ap shown s.world
    ∙ ap (λ (clusters : List (List Wave)). record (shown w) { clusters = clusters }) (map-set (λ (cluster : Cluster). cluster.waves) w.clusters c (cluster_at new c))

with_same : (w : World) (c : ℕ) → with_waves (shown w) c (cluster_at w c).waves ≡ shown w
with_same w c =
    ap (λ (clusters : List (List Wave)). record (shown w) { clusters = clusters })
    (sym (map-set (λ (cluster : Cluster). cluster.waves) w.clusters c (cluster_at w c)) ∙ map-set_same (λ (cluster : Cluster). cluster.waves) w.clusters c (cluster_at w c) (record { horizon = 0; processes = []; waves = [] }) refl)

-- ---- worlds of a design

module _ (design : Design) (clustering : Clustering) (w : World) (of : IsWorldOf design clustering w) where
  pub nets_are : length w.assign ≡ nets_of design
  nets_are = ap length of.assign ∙ of.lawful.each

  pub home_is : (net : ℕ) → get_or w.assign net 0 ≡ cluster_of clustering net
  home_is net = ap (λ xs. get_or xs net 0) of.assign

  pub home_there : (net : ℕ) → net < nets_of design → cluster_of clustering net < clustering.clusters
  home_there net h = of.lawful.there net 0 (omega (arith, of.lawful.each))

  pub home_is_wave : (net : ℕ) → net < nets_of design → out_wave clustering (shown w) net ≡ home_wave w net
  home_is_wave net h =
      ap (λ ws. wave_at ws net) (waves_are w (cluster_of clustering net) (omega (arith, home_there net h, of.clusters)))
      ∙ ap (λ c. wave_at (cluster_at w c).waves net) (sym (home_is net))

  pub home_of : (net : ℕ) → net < nets_of design → IsClusterOf design clustering (cluster_of clustering net) (cluster_at w (cluster_of clustering net)) × IsOwnNet design clustering (cluster_of clustering net) net
  home_of net h = (of.each (cluster_of clustering net) (home_there net h), record { there = h; own = refl })

  pub world_kept : (new : World) (c : ℕ) → c < length w.clusters → IsSameBut c w new → IsWorldOf design clustering new
  world_kept new c h s = record {
    netlist = of.netlist;
    lawful = of.lawful;
    assign = ap (λ v. v.assign) s.world ∙ of.assign;
    clusters = ap (λ v. length v.clusters) s.world ∙ length-set w.clusters c (cluster_at new c) ∙ of.clusters;
    each = λ k there. each k there (cases_eq k c);
  }
    where
      C : ℕ → Cluster → Type 0
      C k s = IsClusterOf design clustering k s

      each : (k : ℕ) → k < clustering.clusters → (k ≡ c) ⊎ (k ≡ c → ⊥) → IsClusterOf design clustering k (cluster_at new k)
      each k there (inl e) =
          let after : IsClusterOf design clustering c (cluster_at new c) = still_of design clustering c (cluster_at w c) (cluster_at new c) s.still (subst (λ i. IsClusterOf design clustering i (cluster_at w i)) e (of.each k there)) in
          subst (λ i. IsClusterOf design clustering i (cluster_at new i)) (sym e) after
      each k there (inr ne) =
          let same : cluster_at new k ≡ cluster_at w k = ap (λ v. cluster_at v k) s.world ∙ get_or-set_other w.clusters c k (cluster_at new c) (record { horizon = 0; processes = []; waves = [] }) ne in
          subst (λ v. IsClusterOf design clustering k v) (sym same) (of.each k there)

-- ---- a step

-- a step in the cluster that has these waves
stepped_in : Design → WorldWaves → ℕ → ℕ → List Wave → Played
stepped_in design world c net ws =
    cond (ltb (wave_at ws net).clock (step_reach design ws (wave_at ws net).net))
    (answered (with_waves world c (with_wave ws (wave_with_piece (wave_at ws net) (step_piece design ws (wave_at ws net))))) (Stepped (Some (step_piece design ws (wave_at ws net)))))
    (answered world (Stepped None))

stepped_in_is : (design : Design) (w new : World) (c net : ℕ) (part : Option Piece) → IsSameBut c w new
    → part ≡ step_answer design (cluster_at w c).waves (wave_at (cluster_at w c).waves net)
    → (cluster_at new c).waves ≡ step_waves design (cluster_at w c).waves (wave_at (cluster_at w c).waves net)
    → ((stepped_in design (shown w) c net (cluster_at w c).waves).world ≡ shown new) × ((stepped_in design (shown w) c net (cluster_at w c).waves).reply ≡ Ok (Stepped part))
unfolding stepped_in
stepped_in_is design w new c net part same answer waves = go (ltb (wave_at (cluster_at w c).waves net).clock (step_reach design (cluster_at w c).waves (wave_at (cluster_at w c).waves net).net)) answer waves
  where
    ws : List Wave
    ws = (cluster_at w c).waves

    more : Wave
    more = wave_with_piece (wave_at (cluster_at w c).waves net) (step_piece design (cluster_at w c).waves (wave_at (cluster_at w c).waves net))

    part' : Piece
    part' = step_piece design (cluster_at w c).waves (wave_at (cluster_at w c).waves net)

    go : (b : Bool)
        → part ≡ cond b (Some (step_piece design (cluster_at w c).waves (wave_at (cluster_at w c).waves net))) None
        → (cluster_at new c).waves ≡ cond b (with_wave (cluster_at w c).waves (wave_with_piece (wave_at (cluster_at w c).waves net) (step_piece design (cluster_at w c).waves (wave_at (cluster_at w c).waves net)))) (cluster_at w c).waves
        → ((cond b (answered (with_waves (shown w) c (with_wave (cluster_at w c).waves (wave_with_piece (wave_at (cluster_at w c).waves net) (step_piece design (cluster_at w c).waves (wave_at (cluster_at w c).waves net))))) (Stepped (Some (step_piece design (cluster_at w c).waves (wave_at (cluster_at w c).waves net))))) (answered (shown w) (Stepped None))).world ≡ shown new)
        × ((cond b (answered (with_waves (shown w) c (with_wave (cluster_at w c).waves (wave_with_piece (wave_at (cluster_at w c).waves net) (step_piece design (cluster_at w c).waves (wave_at (cluster_at w c).waves net))))) (Stepped (Some (step_piece design (cluster_at w c).waves (wave_at (cluster_at w c).waves net))))) (answered (shown w) (Stepped None))).reply ≡ Ok (Stepped part))
    go true answer waves = (ap (with_waves (shown w) c) (sym waves) ∙ sym (shown_with w new c same), ap (λ p. Ok (Stepped p)) (sym answer))
    go false answer waves = (sym (with_same w c) ∙ ap (with_waves (shown w) c) (sym waves) ∙ sym (shown_with w new c same), ap (λ p. Ok (Stepped p)) (sym answer))

-- a step of a net is one in the cluster that drives it
step_played : (design : Design) (clustering : Clustering) (w : World) (net c : ℕ) → net < nets_of design → c < length w.clusters → c ≡ cluster_of clustering net
    → play_world design clustering (shown w) (Step net) ≡ stepped_in design (shown w) c net (cluster_at w c).waves
unfolding stepped_in
step_played design clustering w net c h there own =
    let test : ltb net (nets_of design) ≡ true = lt-ltb net (nets_of design) h in
    let played : play_world design clustering (shown w) (Step net) ≡ stepped_in design (shown w) (cluster_of clustering net) net (waves_of (shown w) (cluster_of clustering net)) = rw test refl in
    played ∙ ap (λ k. stepped_in design (shown w) k net (waves_of (shown w) k)) (sym own) ∙ ap (stepped_in design (shown w) c net) (waves_are w c there)

pub step_plays : (design : Design) (clustering : Clustering) (w new : World) (net c : ℕ) (part : Option Piece)
    → net < nets_of design → c < length w.clusters → c ≡ cluster_of clustering net → IsSameBut c w new
    → part ≡ step_answer design (cluster_at w c).waves (wave_at (cluster_at w c).waves net)
    → (cluster_at new c).waves ≡ step_waves design (cluster_at w c).waves (wave_at (cluster_at w c).waves net)
    → Plays (play_world design clustering (shown w) (Step net)) (shown w) (shown new) (Ok (Stepped part))
unfolding stepped_in
step_plays design clustering w new net c part h there own same answer waves =
    rw (step_played design clustering w net c h there own) (stepped_in_is design w new c net part same answer waves)

-- where memory was wanted for a step, something was new
pub step_wants : (design : Design) (clustering : Clustering) (w : World) (net c : ℕ)
    → net < nets_of design → c < length w.clusters → c ≡ cluster_of clustering net
    → (step_answer design (cluster_at w c).waves (wave_at (cluster_at w c).waves net) ≡ None → ⊥)
    → takes_memory (play_world design clustering (shown w) (Step net)).reply ≡ true
unfolding stepped_in
step_wants design clustering w net c h there own new =
    ap (λ p. takes_memory p.reply) (step_played design clustering w net c h there own) ∙ go (ltb (wave_at (cluster_at w c).waves net).clock (step_reach design (cluster_at w c).waves (wave_at (cluster_at w c).waves net).net)) _ _ _ new
  where
    go : (b : Bool) (more less : WorldWaves) (part : Piece) → (cond b (Some part) None ≡ None → ⊥) → takes_memory (cond b (answered more (Stepped (Some part))) (answered less (Stepped None))).reply ≡ true
    go true more less part new = refl
    go false more less part new = absurd (new refl)

-- the wave of a net in the cluster that drives it
pub home_wave_at : (w : World) (net c : ℕ) → slice_get w.assign net ≡ Some c → wave_at (cluster_at w c).waves net ≡ home_wave w net
home_wave_at w net c e = ap (λ k. wave_at (cluster_at w k).waves net) (sym (get_or_from_slice_get w.assign net c 0 e))

-- the cluster that drives a net
home_at : (design : Design) (clustering : Clustering) (w : World) → IsWorldOf design clustering w → (net c : ℕ) → slice_get w.assign net ≡ Some c → (net < nets_of design) × (c ≡ cluster_of clustering net)
home_at design clustering w of net c e =
    let listed : net < length w.assign = slice_get_within w.assign net c e in
    (omega (arith, nets_are design clustering w of), sym (get_or_from_slice_get w.assign net c 0 e) ∙ home_is design clustering w of net)

-- a net is of the design, and this cluster drives it
pub record IsHome (design : Design) (clustering : Clustering) (w : World) (net c : ℕ) : Type 0 where
  pub inside : net < nets_of design
  pub is : c ≡ cluster_of clustering net
  pub of : IsClusterOf design clustering (cluster_of clustering net) (cluster_at w c)
  pub own : IsOwnNet design clustering (cluster_of clustering net) net

pub home_here : (design : Design) (clustering : Clustering) (w : World) → IsWorldOf design clustering w → (net c : ℕ) → slice_get w.assign net ≡ Some c → IsHome design clustering w net c
home_here design clustering w of net c e =
    let at = home_at design clustering w of net c e in
    let home = home_of design clustering w of net at.0 in
    let C : ℕ → Type 0 = λ k. IsClusterOf design clustering (cluster_of clustering net) (cluster_at w k) in
    record { inside = at.0; is = at.1; of = subst C (sym at.1) home.0; own = home.1 }

pub no_home : (w : World) (net : ℕ) → slice_get w.assign net ≡ None → ltb net (length w.assign) ≡ false
no_home w net e = go (cases_lt net (length w.assign))
  where
    go : (net < length w.assign) ⊎ (length w.assign ≤ net) → ltb net (length w.assign) ≡ false
    go (inl h) = let found : slice_get w.assign net ≡ Some (get_or w.assign net 0) = slice_get-get_or w.assign net 0 h in cc
    go (inr h) = le-ltb _ _ h

pub driven_at : (w : World) → HasDesign w → (net : ℕ) → net < length w.assign → IsDrivenHere (cluster_at w (get_or w.assign net 0)) net
driven_at w has net h =
    let there : net < nets_of has.design = omega (arith, nets_are has.design has.clustering w has.of) in
    let found = home_of has.design has.clustering w has.of net there in
    let D : ℕ → Type 0 = λ c. IsDrivenHere (cluster_at w c) net in
    subst D (sym (home_is has.design has.clustering w has.of net)) (own_driven has.design has.clustering (cluster_of has.clustering net) (cluster_at w (cluster_of has.clustering net)) found.0 net found.1)

-- ---- a delivery

-- what a delivery to a cluster with these waves comes to
reply_of : WorldWaves → ℕ → List Wave → Result Wave DeliverFault → Played
reply_of world c ws (Ok v) = answered (with_waves world c (with_wave ws v)) (Delivered v.clock)
reply_of world c ws (Err fault) = turned_down world (fault_of_event fault)

-- the tests are those of the wave
tests : (world : WorldWaves) (c : ℕ) (piece : Piece) (late old : Bool) (o : Option ℕ) →
    cond late (turned_down world (PlayGap (wave_at (waves_of world c) piece.net).clock)) (cond old (turned_down world (PlayOld (wave_at (waves_of world c) piece.net).clock)) (took world c (wave_at (waves_of world c) piece.net) piece o))
    ≡ reply_of world c (waves_of world c) (as_delivery (cond late (Err (WaveGap (wave_at (waves_of world c) piece.net).clock)) (cond old (Err (WaveOld (wave_at (waves_of world c) piece.net).clock)) (joined (wave_at (waves_of world c) piece.net) piece o))))
unfolding reply_of
tests world c piece true old o = refl
tests world c piece false true o = refl
tests world c piece false false None = refl
tests world c piece false false (Some tick) = refl

deliver_is : (design : Design) (clustering : Clustering) (world : WorldWaves) (c : ℕ) (piece : Piece) (r : Option ℕ) (horizon : ℕ) (ps : List Process) → is_some r ≡ has_input design clustering c piece.net →
    deliver_in design clustering world c (Some piece) ≡ reply_of world c (waves_of world c) (delivered_at (record { horizon = horizon; processes = ps; waves = waves_of world c }) piece r)
unfolding reply_of
deliver_is design clustering world c piece None horizon ps e = rw (sym e) refl
deliver_is design clustering world c piece (Some slot) horizon ps e =
    rw (sym e) (tests world c piece (ltb (wave_at (waves_of world c) piece.net).clock piece.from) (leb piece.to (wave_at (waves_of world c) piece.net).clock) (clash (last_level (wave_at (waves_of world c) piece.net).kept (wave_at (waves_of world c) piece.net).changes) (at_or_after (wave_at (waves_of world c) piece.net).clock piece.changes)))

module _ (design : Design) (clustering : Clustering) (w : World) (of : IsWorldOf design clustering w) (c : ℕ) (there : c < length w.clusters) where
  inside : c < clustering.clusters
  inside = omega (arith, of.clusters)

  given : (net : ℕ) → is_some (input_slot (cluster_at w c) net) ≡ has_input design clustering c net
  given net = input_home design clustering c (cluster_at w c) (of.each c inside) of.netlist net

  yes : ltb c clustering.clusters ≡ true
  yes = lt-ltb c clustering.clusters inside

  module _ (number : ℕ) (piece : Piece) (posted : slice_get w.posts number ≡ Some piece) where
    deliver_played : play_world design clustering (shown w) (Deliver c number) ≡ reply_of (shown w) c (cluster_at w c).waves (delivered (cluster_at w c) piece)
    deliver_played =
        let first : play_world design clustering (shown w) (Deliver c number) ≡ deliver_in design clustering (shown w) c (slice_get w.posts number) = rw yes refl in
        first ∙ ap (deliver_in design clustering (shown w) c) posted
        ∙ deliver_is design clustering (shown w) c piece (input_slot (cluster_at w c) piece.net) (cluster_at w c).horizon (cluster_at w c).processes (given piece.net)
        ∙ ap (λ ws. reply_of (shown w) c ws (delivered_at (record { horizon = (cluster_at w c).horizon; processes = (cluster_at w c).processes; waves = ws }) piece (input_slot (cluster_at w c) piece.net))) (waves_are w c there)

    pub deliver_plays : (new : World) (clock : ℕ) → IsSameBut c w new → delivered (cluster_at w c) piece ≡ Ok (wave_at (cluster_at new c).waves piece.net)
        → (cluster_at new c).waves ≡ with_wave (cluster_at w c).waves (wave_at (cluster_at new c).waves piece.net) → clock ≡ (wave_at (cluster_at new c).waves piece.net).clock
        → Plays (play_world design clustering (shown w) (Deliver c number)) (shown w) (shown new) (Ok (Delivered clock))
    unfolding reply_of
    deliver_plays new clock same ok waves at =
        let is : play_world design clustering (shown w) (Deliver c number) ≡ reply_of (shown w) c (cluster_at w c).waves (Ok (wave_at (cluster_at new c).waves piece.net)) = deliver_played ∙ ap (reply_of (shown w) c (cluster_at w c).waves) ok in
        (ap (λ p. p.world) is ∙ ap (with_waves (shown w) c) (sym waves) ∙ sym (shown_with w new c same), ap (λ p. p.reply) is ∙ ap (λ t. Ok (Delivered t)) (sym at))

    pub deliver_refuses : (new : World) (fault : DeliverFault) → RefusesDelivery fault (delivered (cluster_at w c) piece) → new ≡ w
        → Plays (play_world design clustering (shown w) (Deliver c number)) (shown w) (shown new) (Err (fault_of_event fault))
    unfolding reply_of
    deliver_refuses new Memory r same = (ap shown same, wants (delivered (cluster_at w c) piece) deliver_played r)
      where
        wants : (result : Result Wave DeliverFault) → play_world design clustering (shown w) (Deliver c number) ≡ reply_of (shown w) c (cluster_at w c).waves result → IsOk result → takes_memory (play_world design clustering (shown w) (Deliver c number)).reply ≡ true
        wants (Ok v) is ok = ap (λ p. takes_memory p.reply) is
        wants (Err fault) is ok = cc
    deliver_refuses new Stranger r same = let is = deliver_played ∙ ap (reply_of (shown w) c (cluster_at w c).waves) r in (ap (λ p. p.world) is ∙ ap shown (sym same), ap (λ p. p.reply) is)
    deliver_refuses new (Gap clock) r same = let is = deliver_played ∙ ap (reply_of (shown w) c (cluster_at w c).waves) r in (ap (λ p. p.world) is ∙ ap shown (sym same), ap (λ p. p.reply) is)
    deliver_refuses new (Old clock) r same = let is = deliver_played ∙ ap (reply_of (shown w) c (cluster_at w c).waves) r in (ap (λ p. p.world) is ∙ ap shown (sym same), ap (λ p. p.reply) is)
    deliver_refuses new (Clash tick) r same = let is = deliver_played ∙ ap (reply_of (shown w) c (cluster_at w c).waves) r in (ap (λ p. p.world) is ∙ ap shown (sym same), ap (λ p. p.reply) is)

  -- ---- a look

  module _ (number : ℕ) (promise : Promise) (made : slice_get w.promises number ≡ Some promise) where
    look_first : play_world design clustering (shown w) (Look c number) ≡ look_in design clustering (shown w) c (Some promise)
    look_first =
        let first : play_world design clustering (shown w) (Look c number) ≡ look_in design clustering (shown w) c (slice_get w.promises number) = rw yes refl in
        first ∙ ap (look_in design clustering (shown w) c) made

    -- a look of a cluster with these waves
    looked_in : Bool → List Wave → Played
    looked_in reads ws =
        cond reads (cond (leb promise.upto (wave_at ws promise.net).clock) (answered (shown w) (Looked HeardOld))
        (cond (eqb (wave_at ws promise.net).count promise.count)
        (answered (with_waves (shown w) c (with_wave ws (wave_up_to (wave_at ws promise.net) promise.upto))) (Looked Extended))
        (answered (shown w) (Looked Ahead))))
        (turned_down (shown w) PlayStranger)

    look_played : (reads : Bool) → has_input design clustering c promise.net ≡ reads → play_world design clustering (shown w) (Look c number) ≡ looked_in reads (cluster_at w c).waves
    unfolding looked_in
    look_played reads e =
        let first : look_in design clustering (shown w) c (Some promise) ≡ looked_in reads (waves_of (shown w) c) = rw e refl in
        look_first ∙ first ∙ ap (looked_in reads) (waves_are w c there)

    heard_some : (r : Option ℕ) (heard : Heard) → Ok heard ≡ heard_at (cluster_at w c) promise r → (is_some r ≡ true) × (heard ≡ hears (wave_at (cluster_at w c).waves promise.net) promise)
    heard_some None heard e = absurd (cc)
    heard_some (Some slot) heard e = (refl, cc)

    heard_none : (r : Option ℕ) (stranger : NoWave) → Err stranger ≡ heard_at (cluster_at w c) promise r → is_some r ≡ false
    heard_none None stranger e = refl
    heard_none (Some slot) stranger e = absurd (cc)

    pub look_plays : (new : World) (heard : Heard) → IsSameBut c w new → Ok heard ≡ heard_at (cluster_at w c) promise (input_slot (cluster_at w c) promise.net)
        → (cluster_at new c).waves ≡ with_wave (cluster_at w c).waves (heard_wave (wave_at (cluster_at w c).waves promise.net) promise)
        → Plays (play_world design clustering (shown w) (Look c number)) (shown w) (shown new) (Ok (Looked heard))
    unfolding looked_in
    look_plays new heard same answer waves =
        let some = heard_some (input_slot (cluster_at w c) promise.net) heard answer in
        let is : play_world design clustering (shown w) (Look c number) ≡ looked_in true (cluster_at w c).waves = look_played true (sym (given promise.net) ∙ some.0) in
        rw is (go (leb promise.upto (wave_at (cluster_at w c).waves promise.net).clock) (eqb (wave_at (cluster_at w c).waves promise.net).count promise.count) waves some.1)
      where
        wave : Wave
        wave = wave_at (cluster_at w c).waves promise.net

        still : (cluster_at new c).waves ≡ with_wave (cluster_at w c).waves (wave_at (cluster_at w c).waves promise.net) → shown w ≡ shown new
        still e = sym (with_same w c) ∙ ap (with_waves (shown w) c) (sym (e ∙ with_wave_at (cluster_at w c).waves promise.net)) ∙ sym (shown_with w new c same)

        go : (a b : Bool)
            → (cluster_at new c).waves ≡ with_wave (cluster_at w c).waves (cond a (wave_at (cluster_at w c).waves promise.net) (cond b (wave_up_to (wave_at (cluster_at w c).waves promise.net) promise.upto) (wave_at (cluster_at w c).waves promise.net)))
            → heard ≡ cond a HeardOld (cond b Extended Ahead)
            → ((cond a (answered (shown w) (Looked HeardOld)) (cond b (answered (with_waves (shown w) c (with_wave (cluster_at w c).waves (wave_up_to (wave_at (cluster_at w c).waves promise.net) promise.upto))) (Looked Extended)) (answered (shown w) (Looked Ahead)))).world ≡ shown new)
            × ((cond a (answered (shown w) (Looked HeardOld)) (cond b (answered (with_waves (shown w) c (with_wave (cluster_at w c).waves (wave_up_to (wave_at (cluster_at w c).waves promise.net) promise.upto))) (Looked Extended)) (answered (shown w) (Looked Ahead)))).reply ≡ Ok (Looked heard))
        go true b e h = (still e, ap (λ x. Ok (Looked x)) (sym h))
        go false true e h = (ap (with_waves (shown w) c) (sym e) ∙ sym (shown_with w new c same), ap (λ x. Ok (Looked x)) (sym h))
        go false false e h = (still e, ap (λ x. Ok (Looked x)) (sym h))

    pub look_refuses : (new : World) (stranger : NoWave) → Err stranger ≡ heard_at (cluster_at w c) promise (input_slot (cluster_at w c) promise.net) → new ≡ w
        → Plays (play_world design clustering (shown w) (Look c number)) (shown w) (shown new) (Err PlayStranger)
    unfolding looked_in
    look_refuses new stranger answer same =
        let is : play_world design clustering (shown w) (Look c number) ≡ looked_in false (cluster_at w c).waves = look_played false (sym (given promise.net) ∙ heard_none (input_slot (cluster_at w c) promise.net) stranger answer) in
        rw is (ap shown (sym same), refl)

-- ---- how far an input wave is known

pub known_in_is : (design : Design) (clustering : Clustering) (w : World) → IsWorldOf design clustering w → (c : ℕ) → c < length w.clusters → (net : ℕ)
    → told_at (λ wave. wave.clock) (cluster_at w c) net (input_slot (cluster_at w c) net) ≡ known_in design clustering (shown w) c net
known_in_is design clustering w of c there net =
    let test : ltb c clustering.clusters ≡ true = lt-ltb c clustering.clusters (omega (arith, of.clusters)) in
    rw test (go (input_slot (cluster_at w c) net) (has_input design clustering c net) (given design clustering w of c there net))
  where
    go : (r : Option ℕ) (reads : Bool) → is_some r ≡ reads → told_at (λ wave. wave.clock) (cluster_at w c) net r ≡ cond reads (Some (in_wave (shown w) c net).clock) None
    go None true e = absurd (cc)
    go None false e = refl
    go (Some slot) true e = ap (λ ws. Some (wave_at ws net).clock) (sym (waves_are w c there))
    go (Some slot) false e = absurd (cc)
