-- Over exact waves the world goes as the machine of clocks does, and its waves stay exact.
use Rattle.std.proofs.Common.{◌≡◌, ℕ, zero, suc, ◌+◌, ◌<◌, ◌≤◌, Bool, true, false, ◌||◌, cond, eqb, ltb, leb, List, [], ◌∷◌, ◌++◌, ◌⊎◌, inl, inr, length, get_or, map, Option, Some, None, Result, Ok, Err, refl, ap, sym, ◌∙◌, subst, arith, get_or-set_same, get_or-set_other, length-set}
use Rattle.std.specs.Prelude.{slice_get, option_map}
use Rattle.std.specs.List.{AllByRecursion}
use Rattle.std.proofs.lemmas.List.{get_or_past, map_push, length-map}
use Rattle.std.proofs.lemmas.Option.{slice_get-map}
use Rattle.std.proofs.lemmas.Bool.{or_left, or_right, ltb-true, ltb-false, leb-false, eqb-true, eqb-false, eq-eqb, cases_eq, cases_lt, cond_both}
use Rattle.cmb_wave.specs.declared.level.Promise.{Promise}
use Rattle.cmb_wave.specs.declared.level.Heard.TheVariants.{Extended}
use Rattle.cmb_wave.specs.Waveform.{last_level, changes_between, at_or_after, clash}
use Rattle.cmb_wave.proofs.Spans.{clash-none}
use Rattle.cmb_wave.specs.Wave.{Piece, Wave, IsExactPiece, new_wave, wave_with_piece, wave_up_to, cut_of}
use Rattle.cmb_wave.proofs.Waves.{with_piece-exact, added-alternates, up_to-exact, cut-exact}
use Rattle.cmb_design_model.specs.Design.{Design}
use Rattle.cmb_design_model.specs.Exact.{nets_of, IsExactIn, IsExactWaveIn}
use Rattle.cmb_core_protocol.specs.declared.event.Reply.{Reply}
use Rattle.cmb_core_protocol.specs.declared.event.PlayFault.{PlayFault}
use Rattle.cmb_core_cluster.specs.Clustering.{Clustering, IsClustering, cluster_of, has_input}
use Rattle.cmb_design_model.specs.Value.{value, count}
use Rattle.cmb_core_protocol.specs.declared.event.Event.{Event}
use Rattle.cmb_core_protocol.specs.declared.event.Event.TheVariants.{Step, Post, Deliver, Promise as Promises, Look}
use Rattle.cmb_core_protocol.specs.declared.event.Reply.TheVariants.{Stepped, Posted, Delivered, Promised, Looked}
use Rattle.cmb_core_protocol.specs.declared.event.PlayFault.TheVariants.{Gap, Old}
use Rattle.cmb_core_protocol.specs.Clocks.{Span, Bound, Clocks, Outcome, out_clock, in_clock, seen_clock, machine_reach, replied, start, stepped, posted, machine_delivered, machine_promised, looked, play, with_out, with_in, piece_of, promise_of}
use Rattle.cmb_core_cluster.specs.Step.{wave_at, told_upto, told_from, step_reach, step_piece, with_wave}
use Rattle.cmb_core_world.specs.World.{WorldWaves, Played, waves_of, world_with_wave, out_wave, in_wave, answered, step_in, post_in, deliver_in, taken_in, promise_in, look_in, play_world, world_after, world_replies, new_waves, new_clusters, new_world, Shows}
use Rattle.cmb_netlist.specs.Netlist.{driver_of, pins_of, IsNetlist}
use Rattle.cmb_core_protocol.specs.Run.{clocks_after, replies_to}
use Rattle.cmb_core_protocol.proofs.Machine.{driver_reach-agree, zeros, rows_of_zeros, start-sound, play-goes, IsSound, IsPosted, IsPromised, in-cases}
use Rattle.cmb_core_protocol.proofs.Progress.{in-set}
use Rattle.cmb_core_cluster.proofs.Steps.{wave_at-net, wave_at-exact, IsKept-at_zero, step_piece-is_exact}
use Rattle.cmb_core_cluster.proofs.Everywhere.{all_weaker, all_at}
use Rattle.cmb_core_cluster.proofs.NetReads.{IsPin, pins-are, cluster-there, has_input-from, has_input-not_own}
use Rattle.cmb_core_cluster.proofs.Replacing.{has_wave, wave_at-with_same, wave_at-with_other, has_wave-with, all-with}

-- ---- a wave put in its place in a world

-- the clusters have their waves
pub record HasWaves (design : Design) (clustering : Clustering) (world : WorldWaves) : Type 0 where
  pub clusters : length world.clusters ≡ clustering.clusters
  pub outs : (net : ℕ) → net < nets_of design → has_wave (waves_of world (cluster_of clustering net)) net ≡ true
  pub ins : (cluster net : ℕ) → cluster < clustering.clusters → net < nets_of design → has_input design clustering cluster net ≡ true → has_wave (waves_of world cluster) net ≡ true

module _ (design : Design) (clustering : Clustering) (world : WorldWaves) (has : HasWaves design clustering world) (cluster : ℕ) (there : cluster < clustering.clusters) (wave : Wave) (held : has_wave (waves_of world cluster) wave.net ≡ true) where
  after : WorldWaves
  after = world_with_wave world cluster wave

  waves-same : waves_of after cluster ≡ with_wave (waves_of world cluster) wave
  unfolding after
  waves-same = get_or-set_same world.clusters cluster (with_wave (waves_of world cluster) wave) [] (let inside : cluster < length world.clusters = omega (arith, has.clusters) in inside)

  waves-other : (at : ℕ) → (at ≡ cluster → ⊥) → waves_of after at ≡ waves_of world at
  unfolding after
  waves-other at ne = get_or-set_other world.clusters cluster at (with_wave (waves_of world cluster) wave) [] ne

  -- the wave is where it was put, and all others are as they were
  abbrev Stands : ℕ → ℕ → Type 0
  Stands at net = ((at ≡ cluster) × (net ≡ wave.net) × (in_wave after at net ≡ wave)) ⊎ ((at ≡ cluster → net ≡ wave.net → ⊥) × (in_wave after at net ≡ in_wave world at net))

  wave-cases : (at net : ℕ) → Stands at net
  wave-cases at net = go (cases_eq at cluster) (cases_eq net wave.net)
    where
      go : (at ≡ cluster) ⊎ (at ≡ cluster → ⊥) → (net ≡ wave.net) ⊎ (net ≡ wave.net → ⊥) → Stands at net
      go (inl e) (inl f) = inl (e, f, ap (λ (c : ℕ). wave_at (waves_of after c) net) e ∙ ap (λ (ws : List Wave). wave_at ws net) waves-same ∙ ap (wave_at (with_wave (waves_of world cluster) wave)) f ∙ wave_at-with_same (waves_of world cluster) wave held)
      go (inl e) (inr ne) = inr (λ _ f. ne f, ap (λ (c : ℕ). wave_at (waves_of after c) net) e ∙ ap (λ (ws : List Wave). wave_at ws net) waves-same ∙ wave_at-with_other (waves_of world cluster) wave net ne ∙ ap (λ (c : ℕ). wave_at (waves_of world c) net) (sym e))
      go (inr ne) _ = inr (λ e _. ne e, ap (λ (ws : List Wave). wave_at ws net) (waves-other at ne))

  has_wave-after : (at net : ℕ) → has_wave (waves_of after at) net ≡ has_wave (waves_of world at) net
  has_wave-after at net = go (cases_eq at cluster)
    where
      go : (at ≡ cluster) ⊎ (at ≡ cluster → ⊥) → has_wave (waves_of after at) net ≡ has_wave (waves_of world at) net
      go (inl e) = ap (λ (c : ℕ). has_wave (waves_of after c) net) e ∙ ap (λ (ws : List Wave). has_wave ws net) waves-same ∙ has_wave-with (waves_of world cluster) wave net ∙ ap (λ (c : ℕ). has_wave (waves_of world c) net) (sym e)
      go (inr ne) = ap (λ (ws : List Wave). has_wave ws net) (waves-other at ne)

  has-after : HasWaves design clustering after
  unfolding after
  has-after = record {
    clusters = length-set world.clusters cluster (with_wave (waves_of world cluster) wave) ∙ has.clusters;
    outs = λ net h. has_wave-after (cluster_of clustering net) net ∙ has.outs net h;
    ins = λ at net c h reads. has_wave-after at net ∙ has.ins at net c h reads;
  }

  exact-after : IsExactWaveIn design wave → ((at : ℕ) → AllByRecursion (IsExactWaveIn design) (waves_of world at)) → (at : ℕ) → AllByRecursion (IsExactWaveIn design) (waves_of after at)
  exact-after exact all at = go (cases_eq at cluster)
    where
      go : (at ≡ cluster) ⊎ (at ≡ cluster → ⊥) → AllByRecursion (IsExactWaveIn design) (waves_of after at)
      go (inl e) = subst (λ (c : ℕ). AllByRecursion (IsExactWaveIn design) (waves_of after c)) (sym e) (subst (AllByRecursion (IsExactWaveIn design)) (sym waves-same) (all-with (IsExactWaveIn design) (waves_of world cluster) wave exact (all cluster)))
      go (inr ne) = subst (AllByRecursion (IsExactWaveIn design)) (sym (waves-other at ne)) (all at)

  whole-after : wave.base ≡ 0 → ((at net : ℕ) → (in_wave world at net).base ≡ 0) → (at net : ℕ) → (in_wave after at net).base ≡ 0
  whole-after none whole at net = go (wave-cases at net)
    where
      go : Stands at net → (in_wave after at net).base ≡ 0
      go (inl (e, f, g)) = ap (λ (w : Wave). w.base) g ∙ none
      go (inr (elsewhere, g)) = ap (λ (w : Wave). w.base) g ∙ whole at net

  -- the world shows clocks that tell the wave's where it stands, and all others as before
  shows-after : (clocks later : Clocks) → Shows design clustering world clocks → IsExactWaveIn design wave → wave.base ≡ 0
      → ((net : ℕ) → net < nets_of design → Stands (cluster_of clustering net) net → (out_wave clustering after net).clock ≡ out_clock later net)
      → ((at net : ℕ) → at < clustering.clusters → has_input design clustering at net ≡ true → Stands at net → (in_wave after at net).clock ≡ in_clock later at net)
      → later.posts ≡ clocks.posts → later.promises ≡ clocks.promises → Shows design clustering after later
  unfolding after
  shows-after clocks later shows exact none outs ins posts promises = record {
    exact = exact-after exact shows.exact;
    whole = whole-after none shows.whole;
    outs = λ net h. outs net h (wave-cases (cluster_of clustering net) net);
    ins = λ at net c reads. ins at net c reads (wave-cases at net);
    posts = shows.posts ∙ ap (map (piece_of design)) (sym posts);
    promises = shows.promises ∙ ap (map (promise_of design)) (sym promises);
  }

  -- an output wave that goes on
  out-after : (clocks : Clocks) → IsSound design clustering clocks → Shows design clustering world clocks → IsExactWaveIn design wave → wave.base ≡ 0 → cluster ≡ cluster_of clustering wave.net → wave.net < nets_of design → Shows design clustering after (with_out clocks wave.net wave.clock)
  out-after clocks sound shows exact none own inside = shows-after clocks (with_out clocks wave.net wave.clock) shows exact none outs ins refl refl
    where
      outs : (net : ℕ) → net < nets_of design → Stands (cluster_of clustering net) net → (out_wave clustering after net).clock ≡ out_clock (with_out clocks wave.net wave.clock) net
      outs net h (inl (e, f, g)) =
          let long : wave.net < length clocks.outs = omega (arith, sound.nets) in
          ap (λ (w : Wave). w.clock) g ∙ sym (get_or-set_same clocks.outs wave.net wave.clock 0 long) ∙ ap (out_clock (with_out clocks wave.net wave.clock)) (sym f)
      outs net h (inr (elsewhere, g)) =
          let ne : net ≡ wave.net → ⊥ = λ f. elsewhere (ap (cluster_of clustering) f ∙ sym own) f in
          ap (λ (w : Wave). w.clock) g ∙ shows.outs net h ∙ sym (get_or-set_other clocks.outs wave.net net wave.clock 0 ne)

      ins : (at net : ℕ) → at < clustering.clusters → has_input design clustering at net ≡ true → Stands at net → (in_wave after at net).clock ≡ in_clock clocks at net
      ins at net c reads (inl (e, f, g)) = absurd (has_input-not_own design clustering at net reads (ap (cluster_of clustering) f ∙ sym own ∙ sym e))
      ins at net c reads (inr (elsewhere, g)) = ap (λ (w : Wave). w.clock) g ∙ shows.ins at net c reads

  -- an input wave that goes on
  in-after : (clocks : Clocks) → IsSound design clustering clocks → Shows design clustering world clocks → IsExactWaveIn design wave → wave.base ≡ 0 → has_input design clustering cluster wave.net ≡ true → wave.net < nets_of design → Shows design clustering after (with_in clocks cluster wave.net wave.clock)
  in-after clocks sound shows exact none reads' inside = shows-after clocks (with_in clocks cluster wave.net wave.clock) shows exact none outs ins refl refl
    where
      outs : (net : ℕ) → net < nets_of design → Stands (cluster_of clustering net) net → (out_wave clustering after net).clock ≡ out_clock clocks net
      outs net h (inl (e, f, g)) = absurd (has_input-not_own design clustering cluster wave.net reads' (ap (cluster_of clustering) (sym f) ∙ e))
      outs net h (inr (elsewhere, g)) = ap (λ (w : Wave). w.clock) g ∙ shows.outs net h

      ins : (at net : ℕ) → at < clustering.clusters → has_input design clustering at net ≡ true → Stands at net → (in_wave after at net).clock ≡ in_clock (with_in clocks cluster wave.net wave.clock) at net
      ins at net c reads (inl (e, f, g)) =
          ap (λ (w : Wave). w.clock) g ∙ sym (in-set design clustering clocks sound cluster wave.net wave.clock inside there) ∙ ap (λ (k : ℕ). in_clock (with_in clocks cluster wave.net wave.clock) k wave.net) (sym e) ∙ ap (in_clock (with_in clocks cluster wave.net wave.clock) at) (sym f)
      ins at net c reads (inr (elsewhere, g)) = ap (λ (w : Wave). w.clock) g ∙ shows.ins at net c reads ∙ sym (same (in-cases clocks cluster wave.net wave.clock at net))
        where
          same : ((at ≡ cluster) × (net ≡ wave.net) × (in_clock (with_in clocks cluster wave.net wave.clock) at net ≡ wave.clock)) ⊎ (in_clock (with_in clocks cluster wave.net wave.clock) at net ≡ in_clock clocks at net) → in_clock (with_in clocks cluster wave.net wave.clock) at net ≡ in_clock clocks at net
          same (inl (e, f, h)) = absurd (elsewhere e f)
          same (inr h) = h

-- ---- an event on the world, beside the same event on the clocks

pub record Follows (design : Design) (clustering : Clustering) (played : Played) (outcome : Outcome) : Type 0 where
  pub has : HasWaves design clustering played.world
  pub shows : Shows design clustering played.world outcome.clocks
  pub reply : played.reply ≡ outcome.reply

follows-if : (design : Design) (clustering : Clustering) (a b : Bool) (p q : Played) (x y : Outcome) → a ≡ b → (b ≡ true → Follows design clustering p x) → (b ≡ false → Follows design clustering q y) → Follows design clustering (cond a p q) (cond b x y)
follows-if design clustering true true p q x y e f g = f refl
follows-if design clustering false false p q x y e f g = g refl
follows-if design clustering true false p q x y e f g = cc
follows-if design clustering false true p q x y e f g = cc

exact_piece-is : (design : Design) (piece : Piece) → IsExactIn design piece → piece ≡ piece_of design (record { net = piece.net; from = piece.from; to = piece.to })
exact_piece-is design piece exact = λ i. record { net = piece.net; from = piece.from; to = piece.to; changes = exact.exact.changes i }

module _ (design : Design) (netlist : IsNetlist design.netlist) (clustering : Clustering) (assigned : IsClustering (nets_of design) clustering) (world : WorldWaves) (has : HasWaves design clustering world) (clocks : Clocks) (sound : IsSound design clustering clocks) (shows : Shows design clustering world clocks) where
  -- the reach over the waves of a net's cluster
  pub reach-same : (net : ℕ) → net < nets_of design → step_reach design (waves_of world (cluster_of clustering net)) net ≡ machine_reach design clustering clocks net
  unfolding machine_reach
  reach-same net there =
      driver_reach-agree design (told_upto (waves_of world (cluster_of clustering net))) (seen_clock clustering clocks (cluster_of clustering net)) net (driver_of design.netlist net)
      (all_weaker (IsPin design net) (λ m. told_upto (waves_of world (cluster_of clustering net)) m ≡ seen_clock clustering clocks (cluster_of clustering net) m) (λ m pin. go m pin (eqb (cluster_of clustering m) (cluster_of clustering net)) refl) (pins_of (driver_of design.netlist net)) (pins-are design netlist net))
    where
      go : (m : ℕ) → IsPin design net m → (b : Bool) → eqb (cluster_of clustering m) (cluster_of clustering net) ≡ b → told_upto (waves_of world (cluster_of clustering net)) m ≡ cond b (out_clock clocks m) (in_clock clocks (cluster_of clustering net) m)
      go m pin true e = ap (λ (c : ℕ). (wave_at (waves_of world c) m).clock) (sym (eqb-true _ _ e)) ∙ shows.outs m pin.0
      go m pin false e = shows.ins (cluster_of clustering net) m (cluster-there design clustering assigned net there) (has_input-from design clustering net m there pin.1 (eqb-false _ _ e))

  stays : (played : Result Reply PlayFault) (reply : Result Reply PlayFault) → played ≡ reply → Follows design clustering (record { world = world; reply = played }) (record { clocks = clocks; reply = reply })
  stays played reply e = record { has = has; shows = shows; reply = e }

  out-exact : (net : ℕ) → net < nets_of design → IsExactWaveIn design (out_wave clustering world net)
  out-exact net there = wave_at-exact design (waves_of world (cluster_of clustering net)) (shows.exact (cluster_of clustering net)) net there

  step-follows : (net : ℕ) → net < nets_of design → Follows design clustering (step_in design world (cluster_of clustering net) (waves_of world (cluster_of clustering net)) (out_wave clustering world net)) (stepped design clocks net (machine_reach design clustering clocks net))
  unfolding after
  step-follows net there =
      follows-if design clustering _ _ _ _ _ _ (ap (λ (t : ℕ). ltb t (step_reach design waves wave.net)) clock-is ∙ ap (ltb (out_clock clocks net)) to-is)
      (λ above. goes (ltb-true _ _ above))
      (λ below. stays _ _ refl)
    where
      waves : List Wave
      waves = waves_of world (cluster_of clustering net)

      wave : Wave
      wave = out_wave clustering world net

      net-is : wave.net ≡ net
      net-is = wave_at-net waves net

      clock-is : wave.clock ≡ out_clock clocks net
      clock-is = shows.outs net there

      to-is : step_reach design waves wave.net ≡ machine_reach design clustering clocks net
      to-is = ap (step_reach design waves) net-is ∙ reach-same net there

      goes : out_clock clocks net < machine_reach design clustering clocks net → Follows design clustering (answered (world_with_wave world (cluster_of clustering net) (wave_with_piece wave (step_piece design waves wave))) (Stepped (Some (step_piece design waves wave)))) (replied (with_out clocks net (machine_reach design clustering clocks net)) (Stepped (Some (piece_of design (record { net = net; from = out_clock clocks net; to = machine_reach design clustering clocks net })))))
      goes above =
          let exact : IsExactIn design (step_piece design waves wave) = step_piece-is_exact design waves wave (shows.exact (cluster_of clustering net)) (out-exact net there) (IsKept-at_zero design (told_from waves) (shows.whole (cluster_of clustering net)) wave.net wave.clock (driver_of design.netlist wave.net)) (omega (arith, clock-is, to-is)) in
          let new : Wave = wave_with_piece wave (step_piece design waves wave) in
          let new_exact : IsExactWaveIn design new = record { net = (out-exact net there).net; exact = with_piece-exact (value design wave.net) design.horizon wave (out-exact net there).exact (step_piece design waves wave) exact.exact (omega arith) (omega (arith, clock-is, to-is)) } in
          let held : has_wave waves wave.net ≡ true = ap (has_wave waves) net-is ∙ has.outs net there in
          let c : cluster_of clustering net < clustering.clusters = cluster-there design clustering assigned net there in
          record {
            has = has-after design clustering world has (cluster_of clustering net) c new held;
            shows = subst (λ (s : Clocks). Shows design clustering (world_with_wave world (cluster_of clustering net) new) s) (ap (λ (n : ℕ). with_out clocks n (step_reach design waves wave.net)) net-is ∙ ap (with_out clocks net) to-is)
                (out-after design clustering world has (cluster_of clustering net) c new held clocks sound shows new_exact (shows.whole (cluster_of clustering net) net) (ap (cluster_of clustering) (sym net-is)) (out-exact net there).net);
            reply = ap (λ (p : Piece). Ok (Stepped (Some p))) (exact_piece-is design (step_piece design waves wave) exact ∙ (λ i. piece_of design (record { net = net-is i; from = clock-is i; to = to-is i })));
          }

  -- more was posted or promised, and no wave changed
  noted-follows : (posts : List Piece) (promises : List Promise) (spans : List Span) (bounds : List Bound) (answer reply : Reply)
      → posts ≡ map (piece_of design) spans → promises ≡ map (promise_of design) bounds → ◌≡◌ {A = Result Reply PlayFault} (Ok answer) (Ok reply)
      → Follows design clustering (answered (record world { posts = posts; promises = promises }) answer) (replied (record clocks { posts = spans; promises = bounds }) reply)
  noted-follows posts promises spans bounds answer reply posted promised same = record {
    has = record { clusters = has.clusters; outs = has.outs; ins = has.ins };
    shows = record { exact = shows.exact; whole = shows.whole; outs = shows.outs; ins = shows.ins; posts = posted; promises = promised };
    reply = same;
  }

  post-follows : (net from : ℕ) → net < nets_of design → Follows design clustering (post_in world (out_wave clustering world net) from) (posted clocks net from)
  post-follows net from there =
      follows-if design clustering _ _ _ _ _ _ (ap (λ (t : ℕ). ltb t from) clock-is)
      (λ above. stays _ _ refl)
      (λ below. follows-if design clustering _ _ _ _ _ _ (ap (eqb from) clock-is)
      (λ same. stays _ _ refl)
      (λ differ. sends (ltb-false _ _ below) (eqb-false _ _ differ)))
    where
      wave : Wave
      wave = out_wave clustering world net

      net-is : wave.net ≡ net
      net-is = wave_at-net (waves_of world (cluster_of clustering net)) net

      clock-is : wave.clock ≡ out_clock clocks net
      clock-is = shows.outs net there

      span : Span
      span = record { net = net; from = from; to = out_clock clocks net }

      cut-is : from ≤ out_clock clocks net → cut_of wave from ≡ piece_of design span
      cut-is low =
          let base : wave.base ≡ 0 = shows.whole (cluster_of clustering net) net in
          let part : at_or_after from wave.changes ≡ changes_between (value design wave.net) from wave.clock = cut-exact (value design wave.net) design.horizon wave (out-exact net there).exact from (omega arith) (omega (arith, clock-is)) in
          (λ i. record { net = wave.net; from = from; to = wave.clock; changes = part i }) ∙ (λ i. piece_of design (record { net = net-is i; from = from; to = clock-is i }))

      sends : from ≤ out_clock clocks net → (from ≡ out_clock clocks net → ⊥) → Follows design clustering (answered (record world { posts = world.posts ++ cut_of wave from ∷ [] }) (Posted (Some (length world.posts)))) (replied (record clocks { posts = clocks.posts ++ span ∷ [] }) (Posted (Some (length clocks.posts))))
      sends low ne =
          noted-follows _ world.promises _ clocks.promises _ _
          (ap (λ (ps : List Piece). ps ++ cut_of wave from ∷ []) shows.posts ∙ ap (λ (p : Piece). map (piece_of design) clocks.posts ++ p ∷ []) (cut-is low) ∙ sym (map_push (piece_of design) clocks.posts span))
          shows.promises
          (ap (λ (n : ℕ). Ok (Posted (Some n))) (ap length shows.posts ∙ length-map clocks.posts (piece_of design)))

  promise-follows : (net : ℕ) → net < nets_of design → Follows design clustering (promise_in world (out_wave clustering world net)) (machine_promised design clocks net)
  promise-follows net there =
      noted-follows world.posts _ clocks.posts _ _ _ shows.posts
      (ap (λ (ps : List Promise). ps ++ promise ∷ []) shows.promises ∙ ap (λ (p : Promise). map (promise_of design) clocks.promises ++ p ∷ []) promise-is ∙ sym (map_push (promise_of design) clocks.promises bound))
      (ap (λ (n : ℕ). Ok (Promised n promise)) (ap length shows.promises ∙ length-map clocks.promises (promise_of design)) ∙ ap (λ (p : Promise). Ok (Promised (length clocks.promises) p)) promise-is)
    where
      wave : Wave
      wave = out_wave clustering world net

      bound : Bound
      bound = record { net = net; upto = out_clock clocks net }

      promise : Promise
      promise = record { net = wave.net; count = wave.count; upto = wave.clock }

      promise-is : promise ≡ promise_of design bound
      promise-is =
          let net-is : wave.net ≡ net = wave_at-net (waves_of world (cluster_of clustering net)) net in
          let clock-is : wave.clock ≡ out_clock clocks net = shows.outs net there in
          let count-is : wave.count ≡ count design wave.net wave.clock = (out-exact net there).exact.count in
          (λ i. record { net = wave.net; count = count-is i; upto = wave.clock }) ∙ (λ i. promise_of design (record { net = net-is i; upto = clock-is i }))

  -- an input wave went on, and is exact
  in-follows : (cluster net upto : ℕ) → cluster < clustering.clusters → has_input design clustering cluster net ≡ true → (later : Wave) → IsExactWaveIn design later → later.net ≡ net → later.base ≡ 0 → later.clock ≡ upto → (reply : Reply) → Follows design clustering (answered (world_with_wave world cluster later) reply) (replied (with_in clocks cluster net upto) reply)
  unfolding after
  in-follows cluster net upto c reads later exact net-is whole clock-is reply =
      let held : has_wave (waves_of world cluster) later.net ≡ true = ap (has_wave (waves_of world cluster)) net-is ∙ has.ins cluster net c (omega (arith, exact.net, net-is)) reads in
      record {
        has = has-after design clustering world has cluster c later held;
        shows = subst (λ (k : Clocks). Shows design clustering (world_with_wave world cluster later) k) (λ i. with_in clocks cluster (net-is i) (clock-is i))
            (in-after design clustering world has cluster c later held clocks sound shows exact whole (ap (has_input design clustering cluster) net-is ∙ reads) exact.net);
        reply = refl;
      }

  deliver-follows : (cluster : ℕ) → cluster < clustering.clusters → (post : Option Span) → ((span : Span) → post ≡ Some span → IsPosted design clocks span) → Follows design clustering (deliver_in design clustering world cluster (option_map (piece_of design) post)) (machine_delivered design clustering clocks cluster post)
  unfolding after
  deliver-follows cluster c None was = stays _ _ refl
  deliver-follows cluster c (Some span) was =
      follows-if design clustering _ _ _ _ _ _ refl
      (λ reads. follows-if design clustering _ _ _ _ _ _ (ap (λ (t : ℕ). ltb t span.from) (clock-is reads))
      (λ gap. stays _ _ (ap (λ (t : ℕ). Err (Gap t)) (clock-is reads)))
      (λ meets. follows-if design clustering _ _ _ _ _ _ (ap (leb span.to) (clock-is reads))
      (λ old. stays _ _ (ap (λ (t : ℕ). Err (Old t)) (clock-is reads)))
      (λ new. takes reads (ltb-false _ _ meets) (leb-false _ _ new))))
      (λ stranger. stays _ _ refl)
    where
      wave : Wave
      wave = in_wave world cluster span.net

      net-is : wave.net ≡ span.net
      net-is = wave_at-net (waves_of world cluster) span.net

      clock-is : has_input design clustering cluster span.net ≡ true → wave.clock ≡ in_clock clocks cluster span.net
      clock-is reads = shows.ins cluster span.net c reads

      takes : has_input design clustering cluster span.net ≡ true → span.from ≤ in_clock clocks cluster span.net → in_clock clocks cluster span.net < span.to → Follows design clustering (taken_in world cluster wave (piece_of design span) (clash (last_level wave.kept wave.changes) (at_or_after wave.clock (piece_of design span).changes))) (replied (with_in clocks cluster span.net span.to) (Delivered span.to))
      takes reads meets new =
          let posted' : IsPosted design clocks span = was span refl in
          let exact : IsExactWaveIn design wave = wave_at-exact design (waves_of world cluster) (shows.exact cluster) span.net posted'.0 in
          let own : IsExactPiece (value design span.net) design.horizon (piece_of design span) = record { not_empty = posted'.1; within = omega (arith, posted'.2, sound.outs_within span.net); changes = refl } in
          let piece_exact : IsExactPiece (value design wave.net) design.horizon (piece_of design span) = subst (λ (n : ℕ). IsExactPiece (value design n) design.horizon (piece_of design span)) (sym net-is) own in
          let low : span.from ≤ wave.clock = omega (arith, clock-is reads) in
          let high : wave.clock ≤ span.to = omega (arith, clock-is reads) in
          let calm : clash (last_level wave.kept wave.changes) (at_or_after wave.clock (piece_of design span).changes) ≡ None = clash-none _ _ (added-alternates (value design wave.net) design.horizon wave exact.exact (piece_of design span) piece_exact low high) in
          let later : Wave = wave_with_piece wave (piece_of design span) in
          let later_exact : IsExactWaveIn design later = record { net = exact.net; exact = with_piece-exact (value design wave.net) design.horizon wave exact.exact (piece_of design span) piece_exact low high } in
          subst (λ (o : Option ℕ). Follows design clustering (taken_in world cluster wave (piece_of design span) o) (replied (with_in clocks cluster span.net span.to) (Delivered span.to))) (sym calm)
          (in-follows cluster span.net span.to c reads later later_exact net-is (shows.whole cluster span.net) refl (Delivered span.to))

  look-follows : (cluster : ℕ) → cluster < clustering.clusters → (promise : Option Bound) → ((bound : Bound) → promise ≡ Some bound → IsPromised design clocks bound) → Follows design clustering (look_in design clustering world cluster (option_map (promise_of design) promise)) (looked design clustering clocks cluster promise)
  unfolding after
  look-follows cluster c None was = stays _ _ refl
  look-follows cluster c (Some bound) was =
      follows-if design clustering _ _ _ _ _ _ refl
      (λ reads. follows-if design clustering _ _ _ _ _ _ (ap (leb bound.upto) (clock-is reads))
      (λ old. stays _ _ refl)
      (λ new. follows-if design clustering _ _ _ _ _ _ (ap (λ (n : ℕ). eqb n (count design bound.net bound.upto)) (count-is reads))
      (λ equal. hears reads (leb-false _ _ new) (count-is reads ∙ eqb-true _ _ equal))
      (λ ahead. stays _ _ refl)))
      (λ stranger. stays _ _ refl)
    where
      wave : Wave
      wave = in_wave world cluster bound.net

      net-is : wave.net ≡ bound.net
      net-is = wave_at-net (waves_of world cluster) bound.net

      promised' : IsPromised design clocks bound
      promised' = was bound refl

      exact : IsExactWaveIn design wave
      exact = wave_at-exact design (waves_of world cluster) (shows.exact cluster) bound.net promised'.0

      clock-is : has_input design clustering cluster bound.net ≡ true → wave.clock ≡ in_clock clocks cluster bound.net
      clock-is reads = shows.ins cluster bound.net c reads

      count-is : has_input design clustering cluster bound.net ≡ true → wave.count ≡ count design bound.net (in_clock clocks cluster bound.net)
      count-is reads = exact.exact.count ∙ ap (λ (n : ℕ). count design n wave.clock) net-is ∙ ap (count design bound.net) (clock-is reads)

      hears : has_input design clustering cluster bound.net ≡ true → in_clock clocks cluster bound.net < bound.upto → wave.count ≡ count design bound.net bound.upto → Follows design clustering (answered (world_with_wave world cluster (wave_up_to wave bound.upto)) (Looked Extended)) (replied (with_in clocks cluster bound.net bound.upto) (Looked Extended))
      hears reads new same =
          let later : Wave = wave_up_to wave bound.upto in
          let later_exact : IsExactWaveIn design later = record { net = exact.net; exact = up_to-exact (value design wave.net) design.horizon wave exact.exact bound.upto (omega (arith, clock-is reads)) (omega (arith, promised'.1, sound.outs_within bound.net)) (same ∙ ap (λ (n : ℕ). count design n bound.upto) (sym net-is)) } in
          in-follows cluster bound.net bound.upto c reads later later_exact net-is (shows.whole cluster bound.net) refl (Looked Extended)

  -- each event on the world is the same event on the clocks, with its reply
  pub play-follows : (event : Event) → Follows design clustering (play_world design clustering world event) (play design clustering clocks event)
  play-follows (Step net) = follows-if design clustering _ _ _ _ _ _ refl (λ there. step-follows net (ltb-true _ _ there)) (λ not_there. stays _ _ refl)
  play-follows (Post net from) = follows-if design clustering _ _ _ _ _ _ refl (λ there. post-follows net from (ltb-true _ _ there)) (λ not_there. stays _ _ refl)
  play-follows (Promises net) = follows-if design clustering _ _ _ _ _ _ refl (λ there. promise-follows net (ltb-true _ _ there)) (λ not_there. stays _ _ refl)
  play-follows (Deliver cluster number) =
      follows-if design clustering _ _ _ _ _ _ refl
      (λ there. subst (λ (o : Option Piece). Follows design clustering (deliver_in design clustering world cluster o) (machine_delivered design clustering clocks cluster (slice_get clocks.posts number)))
      (sym (ap (λ (ps : List Piece). slice_get ps number) shows.posts ∙ slice_get-map (piece_of design) clocks.posts number))
      (deliver-follows cluster (ltb-true _ _ there) (slice_get clocks.posts number) (λ span is. all_at (IsPosted design clocks) clocks.posts number span sound.posts is)))
      (λ not_there. stays _ _ refl)
  play-follows (Look cluster number) =
      follows-if design clustering _ _ _ _ _ _ refl
      (λ there. subst (λ (o : Option Promise). Follows design clustering (look_in design clustering world cluster o) (looked design clustering clocks cluster (slice_get clocks.promises number)))
      (sym (ap (λ (ps : List Promise). slice_get ps number) shows.promises ∙ slice_get-map (promise_of design) clocks.promises number))
      (look-follows cluster (ltb-true _ _ there) (slice_get clocks.promises number) (λ bound is. all_at (IsPromised design clocks) clocks.promises number bound sound.promises is)))
      (λ not_there. stays _ _ refl)

-- ---- whole runs

-- over any list of events the world goes as the clocks do, with the same replies, and its waves stay exact
pub run-follows : (design : Design) → IsNetlist design.netlist → (clustering : Clustering) → IsClustering (nets_of design) clustering → (events : List Event) (world : WorldWaves) (clocks : Clocks) → HasWaves design clustering world → IsSound design clustering clocks → Shows design clustering world clocks → Shows design clustering (world_after design clustering world events) (clocks_after design clustering clocks events) × (world_replies design clustering world events ≡ replies_to design clustering clocks events)
run-follows design netlist clustering assigned [] world clocks has sound shows = (shows, refl)
run-follows design netlist clustering assigned (event ∷ events) world clocks has sound shows =
    let first : Follows design clustering (play_world design clustering world event) (play design clustering clocks event) = play-follows design netlist clustering assigned world has clocks sound shows event in
    let rest : Shows design clustering (world_after design clustering (play_world design clustering world event).world events) (clocks_after design clustering (play design clustering clocks event).clocks events) × (world_replies design clustering (play_world design clustering world event).world events ≡ replies_to design clustering (play design clustering clocks event).clocks events) =
    run-follows design netlist clustering assigned events (play_world design clustering world event).world (play design clustering clocks event).clocks first.has (play-goes design clustering clocks sound event).0 first.shows in
    (rest.0, ap (λ (r : Result Reply PlayFault). r ∷ world_replies design clustering (play_world design clustering world event).world events) first.reply ∙ ap (λ (rs : List (Result Reply PlayFault)). (play design clustering clocks event).reply ∷ rs) rest.1)

-- ---- newly opened clusters

module _ (design : Design) (clustering : Clustering) where
  new_waves-has : (cluster net nets other : ℕ) → net ≤ other → other < net + nets → (eqb (cluster_of clustering other) cluster || has_input design clustering cluster other) ≡ true → has_wave (new_waves design clustering cluster net nets) other ≡ true
  new_waves-has cluster net zero other a b own = absurd (omega arith)
  new_waves-has cluster net (suc nets) other a b own = go (cases_eq other net) (λ later. new_waves-has cluster (suc net) nets other (omega arith) (omega arith) own)
    where
      rest : List Wave
      rest = new_waves design clustering cluster (suc net) nets

      go : (other ≡ net) ⊎ (other ≡ net → ⊥) → ((other ≡ net → ⊥) → has_wave rest other ≡ true) → has_wave (cond (eqb (cluster_of clustering net) cluster || has_input design clustering cluster net) (new_wave net ∷ rest) rest) other ≡ true
      go (inl same) more =
          let here : (eqb (cluster_of clustering net) cluster || has_input design clustering cluster net) ≡ true = subst (λ (n : ℕ). (eqb (cluster_of clustering n) cluster || has_input design clustering cluster n) ≡ true) same own in
          rw here (or_left (eqb net other) (has_wave rest other) (eq-eqb net other (sym same)))
      go (inr ne) more =
          cond_both (eqb (cluster_of clustering net) cluster || has_input design clustering cluster net) (new_wave net ∷ rest) rest (λ (ws : List Wave). has_wave ws other ≡ true)
          (λ held. or_right (eqb net other) (has_wave rest other) (more ne)) (λ not_held. more ne)

  new_waves-at : (cluster net nets other : ℕ) → wave_at (new_waves design clustering cluster net nets) other ≡ new_wave other
  new_waves-at cluster net zero other = refl
  new_waves-at cluster net (suc nets) other =
      cond_both (eqb (cluster_of clustering net) cluster || has_input design clustering cluster net) (new_wave net ∷ new_waves design clustering cluster (suc net) nets) (new_waves design clustering cluster (suc net) nets) (λ (ws : List Wave). wave_at ws other ≡ new_wave other)
      (λ held. go (eqb net other) refl (new_waves-at cluster (suc net) nets other)) (λ not_held. new_waves-at cluster (suc net) nets other)
    where
      go : (b : Bool) → eqb net other ≡ b → wave_at (new_waves design clustering cluster (suc net) nets) other ≡ new_wave other → cond b (new_wave net) (wave_at (new_waves design clustering cluster (suc net) nets) other) ≡ new_wave other
      go true e more = ap new_wave (eqb-true net other e)
      go false e more = more

  new_waves-exact : (cluster net nets : ℕ) → net + nets ≤ nets_of design → AllByRecursion (IsExactWaveIn design) (new_waves design clustering cluster net nets)
  new_waves-exact cluster net zero h = tt
  new_waves-exact cluster net (suc nets) h =
      cond_both (eqb (cluster_of clustering net) cluster || has_input design clustering cluster net) (new_wave net ∷ new_waves design clustering cluster (suc net) nets) (new_waves design clustering cluster (suc net) nets) (AllByRecursion (IsExactWaveIn design))
      (λ held. (wave_at-exact design [] tt net (omega arith), new_waves-exact cluster (suc net) nets (omega arith))) (λ not_held. new_waves-exact cluster (suc net) nets (omega arith))

  length-new_clusters : (cluster many : ℕ) → length (new_clusters design clustering cluster many) ≡ many
  length-new_clusters cluster zero = refl
  length-new_clusters cluster (suc many) = ap suc (length-new_clusters (suc cluster) many)

  new_clusters-at : (cluster many at to : ℕ) → at < many → to ≡ cluster + at → get_or (new_clusters design clustering cluster many) at [] ≡ new_waves design clustering to 0 (nets_of design)
  new_clusters-at cluster zero at to h e = absurd (omega arith)
  new_clusters-at cluster (suc many) zero to h e = ap (λ (c : ℕ). new_waves design clustering c 0 (nets_of design)) (let same : cluster ≡ to = omega arith in same)
  new_clusters-at cluster (suc many) (suc at) to h e = new_clusters-at (suc cluster) many at to (omega arith) (omega arith)

  opened : (cluster : ℕ) → (waves_of (new_world design clustering) cluster ≡ new_waves design clustering cluster 0 (nets_of design)) ⊎ (waves_of (new_world design clustering) cluster ≡ [])
  opened cluster = go (cases_lt cluster clustering.clusters)
    where
      go : (cluster < clustering.clusters) ⊎ (clustering.clusters ≤ cluster) → (waves_of (new_world design clustering) cluster ≡ new_waves design clustering cluster 0 (nets_of design)) ⊎ (waves_of (new_world design clustering) cluster ≡ [])
      go (inl l) = inl (new_clusters-at 0 clustering.clusters cluster cluster l (omega arith))
      go (inr past) = inr (get_or_past (new_clusters design clustering 0 clustering.clusters) cluster [] (omega (arith, length-new_clusters 0 clustering.clusters)))

  new_world-at : (cluster net : ℕ) → in_wave (new_world design clustering) cluster net ≡ new_wave net
  new_world-at cluster net = go (opened cluster)
    where
      go : (waves_of (new_world design clustering) cluster ≡ new_waves design clustering cluster 0 (nets_of design)) ⊎ (waves_of (new_world design clustering) cluster ≡ []) → in_wave (new_world design clustering) cluster net ≡ new_wave net
      go (inl e) = ap (λ (ws : List Wave). wave_at ws net) e ∙ new_waves-at cluster 0 (nets_of design) net
      go (inr e) = ap (λ (ws : List Wave). wave_at ws net) e

  pub new_world-shows : Shows design clustering (new_world design clustering) (start design clustering)
  new_world-shows = record {
    exact = λ cluster. exact cluster (opened cluster);
    whole = λ cluster net. ap (λ (w : Wave). w.base) (new_world-at cluster net);
    outs = λ net there. ap (λ (w : Wave). w.clock) (new_world-at (cluster_of clustering net) net) ∙ sym (zeros (nets_of design) net);
    ins = λ cluster net c reads. ap (λ (w : Wave). w.clock) (new_world-at cluster net) ∙ sym (rows_of_zeros clustering.clusters (nets_of design) cluster net);
    posts = refl;
    promises = refl;
  }
    where
      exact : (cluster : ℕ) → (waves_of (new_world design clustering) cluster ≡ new_waves design clustering cluster 0 (nets_of design)) ⊎ (waves_of (new_world design clustering) cluster ≡ []) → AllByRecursion (IsExactWaveIn design) (waves_of (new_world design clustering) cluster)
      exact cluster (inl e) = subst (AllByRecursion (IsExactWaveIn design)) (sym e) (new_waves-exact cluster 0 (nets_of design) (omega arith))
      exact cluster (inr e) = subst (AllByRecursion (IsExactWaveIn design)) (sym e) tt

  pub new_world-has : IsClustering (nets_of design) clustering → HasWaves design clustering (new_world design clustering)
  new_world-has assigned = record {
    clusters = length-new_clusters 0 clustering.clusters;
    outs = λ net there. held (cluster_of clustering net) net (assigned.there net 0 (omega (arith, assigned.each))) there (or_left _ _ (eq-eqb (cluster_of clustering net) (cluster_of clustering net) refl));
    ins = λ cluster net c there reads. held cluster net c there (or_right _ _ reads);
  }
    where
      held : (cluster net : ℕ) → cluster < clustering.clusters → net < nets_of design → (eqb (cluster_of clustering net) cluster || has_input design clustering cluster net) ≡ true → has_wave (waves_of (new_world design clustering) cluster) net ≡ true
      held cluster net c there own =
          ap (λ (ws : List Wave). has_wave ws net) (new_clusters-at 0 clustering.clusters cluster cluster c (omega arith)) ∙ new_waves-has cluster 0 (nets_of design) net (omega arith) (omega arith) own

-- from newly opened clusters on, whatever comes
pub world-follows : (design : Design) → IsNetlist design.netlist → (clustering : Clustering) → IsClustering (nets_of design) clustering → (events : List Event) → Shows design clustering (world_after design clustering (new_world design clustering) events) (clocks_after design clustering (start design clustering) events) × (world_replies design clustering (new_world design clustering) events ≡ replies_to design clustering (start design clustering) events)
world-follows design netlist clustering assigned events =
    run-follows design netlist clustering assigned events (new_world design clustering) (start design clustering) (new_world-has design clustering assigned) (start-sound design clustering) (new_world-shows design clustering)
