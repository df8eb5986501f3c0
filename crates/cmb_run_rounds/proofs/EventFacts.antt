-- What the events of a round come to in the machine of clocks.
use Rattle.std.proofs.Common.{◌≡◌, ℕ, zero, suc, ◌<◌, ◌≤◌, Bool, true, false, cond, eqb, ltb, List, [], ◌∷◌, ◌++◌, ◌⊎◌, inl, inr, length, get_or, map, refl, sym, ◌∙◌, ap, subst, arith, Option, Some, None, IsSome, Result, get_or-set_same, get_or-set_other}
use Rattle.std.specs.List.{AllByRecursion}
use Rattle.std.proofs.lemmas.Bool.{cases_eq, cases_lt, cond_both, eqb-true, eqb-false, lt-ltb, ltb-true, ltb-false}
use Rattle.cmb_wave.specs.Wave.{Wave}
use Rattle.cmb_netlist.specs.Netlist.{IsNetlist, driver_of, pins_of}
use Rattle.cmb_design_model.specs.Design.{Design}
use Rattle.cmb_design_model.specs.Exact.{nets_of}
use Rattle.cmb_core_cluster.specs.Clustering.{Clustering, IsClustering, cluster_of, has_input}
use Rattle.cmb_core_cluster.specs.Clusters.{step_waves}
use Rattle.cmb_core_cluster.specs.Directory.{place_in}
use Rattle.cmb_core_cluster.specs.Opened.{IsOwnNet, is_own, own_nets, read_nets}
use Rattle.cmb_core_cluster.specs.Step.{wave_at, told_upto, step_reach}
use Rattle.cmb_core_cluster.specs.Sweep.{stepped_waves}
use Rattle.cmb_core_cluster.proofs.Everywhere.{all_weaker}
use Rattle.cmb_core_cluster.proofs.Homes.{input_there}
use Rattle.cmb_core_cluster.proofs.NetReads.{IsPin, pins-are, has_input-from, has_input-not_own}
use Rattle.cmb_core_cluster.proofs.OpeningFacts.{filter_range_all, filter_range_place}
use Rattle.cmb_core_cluster.proofs.OwnFacts.{place_at}
use Rattle.cmb_core_cluster.proofs.OnwardFacts.{HasAll, filter_all, has_rest, step_clock, step_still}
use Rattle.cmb_core_cluster.proofs.Replacing.{has_wave}
use Rattle.cmb_core_protocol.specs.declared.event.Event.{Event}
use Rattle.cmb_core_protocol.specs.declared.event.Event.TheVariants.{Step}
use Rattle.cmb_core_protocol.specs.declared.event.Reply.{Reply}
use Rattle.cmb_core_protocol.specs.declared.event.PlayFault.{PlayFault}
use Rattle.cmb_core_protocol.specs.Clocks.{Clocks, Outcome, out_clock, in_clock, seen_clock, machine_reach, with_in, with_out, play}
use Rattle.cmb_core_protocol.specs.Run.{clocks_after}
use Rattle.cmb_core_protocol.proofs.Machine.{IsSound, play-goes, clocks_after-goes, clocks_after-append, driver_reach-agree, in-cases}
use Rattle.cmb_core_protocol.proofs.Progress.{in-set, passing}
use Rattle.cmb_run_rounds.specs.RoundEvents.{in_turn, sweep_events, pass_events, serve_events, step_events, exchange_events}

pub all_own_nets : (design : Design) (clustering : Clustering) (worker : ℕ) → AllByRecursion (IsOwnNet design clustering worker) (own_nets design clustering worker)
all_own_nets design clustering worker =
    filter_all (is_own clustering worker) (IsOwnNet design clustering worker) 0 (nets_of design) (λ net there e. record { there = omega (arith, there); own = eqb-true _ _ e })

pub read_at : (design : Design) (clustering : Clustering) (reader place : ℕ) → place < length (read_nets design clustering reader)
    → (get_or (read_nets design clustering reader) place 0 < nets_of design) × (has_input design clustering reader (get_or (read_nets design clustering reader) place 0) ≡ true)
read_at design clustering reader place h = filter_range_all (has_input design clustering reader) (nets_of design) place 0 h

-- each net that is read has its place among these
pub read_place : (design : Design) (clustering : Clustering) (reader net : ℕ) → net < nets_of design → has_input design clustering reader net ≡ true → (k : ℕ) × (k < length (read_nets design clustering reader)) × (get_or (read_nets design clustering reader) k 0 ≡ net)
read_place design clustering reader net there reads =
    go (place_in (read_nets design clustering reader) net) refl (filter_range_place (has_input design clustering reader) 0 (nets_of design) net (omega arith) (omega (arith, there)) reads)
  where
    go : (o : Option ℕ) → place_in (read_nets design clustering reader) net ≡ o → IsSome o → (k : ℕ) × (k < length (read_nets design clustering reader)) × (get_or (read_nets design clustering reader) k 0 ≡ net)
    go None e h = cc
    go (Some k) e h = let at = place_at (read_nets design clustering reader) net k e in (k, at.0, at.1)

module _ (design : Design) (clustering : Clustering) where
  abbrev after : Clocks → List Event → Clocks
  after = clocks_after design clustering

  abbrev turns : (ℕ → Clocks → List Event) → ℕ → Clocks → Clocks
  turns turn many clocks = after clocks (in_turn design clustering turn many clocks)

  pub turns_more : (turn : ℕ → Clocks → List Event) (many : ℕ) (clocks : Clocks) → turns turn (suc many) clocks ≡ after (turns turn many clocks) (turn many (turns turn many clocks))
  turns_more turn many clocks = clocks_after-append design clustering clocks (in_turn design clustering turn many clocks) (turn many (turns turn many clocks))

  abbrev Sound : Clocks → Type 0
  Sound = IsSound design clustering

  -- ---- the exchange

  -- the worker knows the net as far as the one that drives it, and no other clock moved
  pub record Passes (worker net : ℕ) (before now : Clocks) : Type 0 where
    pub met : in_clock now worker net ≡ out_clock before net
    pub outs : (other : ℕ) → out_clock now other ≡ out_clock before other
    pub others : (at other : ℕ) → (at ≡ worker → other ≡ net → ⊥) → in_clock now at other ≡ in_clock before at other

  module _ (worker : ℕ) (inside : worker < clustering.clusters) where
    pub passes : (clocks : Clocks) → Sound clocks → (net : ℕ) → net < nets_of design → has_input design clustering worker net ≡ true → Passes worker net clocks (after clocks (pass_events worker net clocks))
    passes clocks sound net there reads =
        cond_both (ltb (in_clock clocks worker net) (out_clock clocks net)) _ _ (λ events. Passes worker net clocks (after clocks events))
        (λ below. subst (Passes worker net clocks) (sym (passing design clustering clocks sound net worker there inside reads (ltb-true _ _ below))) taken)
        (λ above. record { met = omega (arith, ltb-false _ _ above, sound.ins_within worker net); outs = λ other. refl; others = λ at other apart. refl })
      where
        noted : Clocks
        noted = record clocks { posts = clocks.posts ++ record { net = net; from = in_clock clocks worker net; to = out_clock clocks net } ∷ [] }

        taken : Passes worker net clocks (with_in noted worker net (out_clock clocks net))
        taken = record {
          met = in-set design clustering clocks sound worker net (out_clock clocks net) there inside;
          outs = λ other. refl;
          others = λ at other apart. go at other apart (in-cases clocks worker net (out_clock clocks net) at other);
        }
          where
            go : (at other : ℕ) → (at ≡ worker → other ≡ net → ⊥) → ((at ≡ worker) × (other ≡ net) × (in_clock (with_in clocks worker net (out_clock clocks net)) at other ≡ out_clock clocks net)) ⊎ (in_clock (with_in clocks worker net (out_clock clocks net)) at other ≡ in_clock clocks at other) → in_clock (with_in clocks worker net (out_clock clocks net)) at other ≡ in_clock clocks at other
            go at other apart (inl (e, f, g)) = absurd (apart e f)
            go at other apart (inr g) = g

    abbrev reads : List ℕ
    reads = read_nets design clustering worker

    abbrev nth : ℕ → ℕ
    nth place = get_or reads place 0

    -- so many of the nets that the worker reads were passed on
    record Serves (place : ℕ) (before now : Clocks) : Type 0 where
      sound : Sound now
      met : (k : ℕ) → k < place → in_clock now worker (nth k) ≡ out_clock now (nth k)
      outs : (net : ℕ) → out_clock now net ≡ out_clock before net
      others : (at net : ℕ) → (at ≡ worker → ⊥) → in_clock now at net ≡ in_clock before at net

    serves_more : (place : ℕ) (before now : Clocks) → place < length reads → Serves place before now → Serves (suc place) before (after now (pass_events worker (nth place) now))
    serves_more place before now h s = record {
      sound = (clocks_after-goes design clustering now (pass_events worker (nth place) now) s.sound).0;
      met = λ k below. met k below (cases_eq (nth k) (nth place)) (cases_lt k place);
      outs = λ net. p.outs net ∙ s.outs net;
      others = λ at net apart. p.others at net (λ e _. apart e) ∙ s.others at net apart;
    }
      where
        p : Passes worker (nth place) now (after now (pass_events worker (nth place) now))
        p = let at = read_at design clustering worker place h in passes now s.sound (nth place) at.0 at.1

        met : (k : ℕ) → k < suc place → (nth k ≡ nth place) ⊎ (nth k ≡ nth place → ⊥) → (k < place) ⊎ (place ≤ k) → in_clock (after now (pass_events worker (nth place) now)) worker (nth k) ≡ out_clock (after now (pass_events worker (nth place) now)) (nth k)
        met k below (inl e) _ =
            let P : ℕ → Type 0 = λ n. in_clock (after now (pass_events worker (nth place) now)) worker n ≡ out_clock (after now (pass_events worker (nth place) now)) n in
            subst P (sym e) (p.met ∙ sym (p.outs (nth place)))
        met k below (inr ne) (inl less) = p.others worker (nth k) (λ _ f. ne f) ∙ s.met k less ∙ sym (p.outs (nth k))
        met k below (inr ne) (inr past) = let e : k ≡ place = omega arith in absurd (ne (ap nth e))

    serves : (place : ℕ) (clocks : Clocks) → place ≤ length reads → Sound clocks → Serves place clocks (turns (λ k. pass_events worker (nth k)) place clocks)
    serves zero clocks h sound = record { sound = sound; met = λ k none. absurd (omega arith); outs = λ net. refl; others = λ at net apart. refl }
    serves (suc place) clocks h sound =
        subst (Serves (suc place) clocks) (sym (turns_more (λ k. pass_events worker (nth k)) place clocks)) (serves_more place clocks (turns (λ k. pass_events worker (nth k)) place clocks) (omega arith) (serves place clocks (omega arith) sound))

  -- the workers below one were served
  pub record Exchanges (upto : ℕ) (before now : Clocks) : Type 0 where
    pub sound : IsSound design clustering now
    pub met : (worker net : ℕ) → worker < upto → has_input design clustering worker net ≡ true → in_clock now worker net ≡ out_clock now net
    pub outs : (net : ℕ) → out_clock now net ≡ out_clock before net

  module _ (netlist : IsNetlist design.netlist) where
    exchanges_more : (worker : ℕ) (before now : Clocks) → worker < clustering.clusters → Exchanges worker before now → Exchanges (suc worker) before (after now (serve_events design clustering worker now))
    exchanges_more worker before now inside x = record {
      sound = s.sound;
      met = λ at net below reads. met at net below reads (cases_eq at worker);
      outs = λ net. s.outs net ∙ x.outs net;
    }
      where
        s : Serves worker inside (length (read_nets design clustering worker)) now (after now (serve_events design clustering worker now))
        s = serves worker inside (length (read_nets design clustering worker)) now (omega arith) x.sound

        met : (at net : ℕ) → at < suc worker → has_input design clustering at net ≡ true → (at ≡ worker) ⊎ (at ≡ worker → ⊥) → in_clock (after now (serve_events design clustering worker now)) at net ≡ out_clock (after now (serve_events design clustering worker now)) net
        met at net below reads (inl e) =
            let here : has_input design clustering worker net ≡ true = subst (λ (w : ℕ). has_input design clustering w net ≡ true) e reads in
            let place = read_place design clustering worker net (input_there design clustering worker net netlist here) here in
            let P : ℕ → Type 0 = λ w. in_clock (after now (serve_events design clustering worker now)) w net ≡ out_clock (after now (serve_events design clustering worker now)) net in
            let Q : ℕ → Type 0 = λ n. in_clock (after now (serve_events design clustering worker now)) worker n ≡ out_clock (after now (serve_events design clustering worker now)) n in
            subst P (sym e) (subst Q place.2 (s.met place.0 place.1))
        met at net below reads (inr ne) = s.others at net ne ∙ x.met at net (omega arith) reads ∙ sym (s.outs net)

    exchanges : (upto : ℕ) (clocks : Clocks) → upto ≤ clustering.clusters → IsSound design clustering clocks → Exchanges upto clocks (turns (serve_events design clustering) upto clocks)
    exchanges zero clocks h sound = record { sound = sound; met = λ worker net none. absurd (omega arith); outs = λ net. refl }
    exchanges (suc upto) clocks h sound =
        subst (Exchanges (suc upto) clocks) (sym (turns_more (serve_events design clustering) upto clocks)) (exchanges_more upto clocks (turns (serve_events design clustering) upto clocks) (omega arith) (exchanges upto clocks (omega arith) sound))

    -- after an exchange every input clock is its net's output clock, and these are as they were
    pub exchanged : (clocks : Clocks) → IsSound design clustering clocks → Exchanges clustering.clusters clocks (clocks_after design clustering clocks (exchange_events design clustering clocks))
    exchanged clocks sound = exchanges clustering.clusters clocks (omega arith) sound

  -- ---- the steps

  -- the clocks of a worker's waves, those of the nets that it drives and of those that it reads
  pub record Views (worker : ℕ) (waves : List Wave) (clocks : Clocks) : Type 0 where
    pub own : (net : ℕ) → IsOwnNet design clustering worker net → (wave_at waves net).clock ≡ out_clock clocks net
    pub read : (net : ℕ) → has_input design clustering worker net ≡ true → (wave_at waves net).clock ≡ in_clock clocks worker net

  -- a step of a net: its clock is the reach, where that is above it, and no other clock moved
  record Goes (net : ℕ) (before now : Clocks) : Type 0 where
    met : out_clock now net ≡ cond (ltb (out_clock before net) (machine_reach design clustering before net)) (machine_reach design clustering before net) (out_clock before net)
    outs : (other : ℕ) → (other ≡ net → ⊥) → out_clock now other ≡ out_clock before other
    ins : (at other : ℕ) → in_clock now at other ≡ in_clock before at other

  abbrev outcome : Clocks → Result Reply PlayFault → Outcome
  outcome clocks reply = record { clocks = clocks; reply = reply }

  goes : (clocks : Clocks) → Sound clocks → (net : ℕ) → net < nets_of design → Goes net clocks (play design clustering clocks (Step net)).clocks
  goes clocks sound net there = rw (lt-ltb net (nets_of design) there) (go (ltb (out_clock clocks net) (machine_reach design clustering clocks net)) refl _ _)
    where
      inside : net < length clocks.outs
      inside = omega (arith, sound.nets)

      go : (b : Bool) → ltb (out_clock clocks net) (machine_reach design clustering clocks net) ≡ b → (far near : Result Reply PlayFault) → Goes net clocks (cond b (outcome (with_out clocks net (machine_reach design clustering clocks net)) far) (outcome clocks near)).clocks
      go true e far near = record {
        met = rw e (get_or-set_same clocks.outs net (machine_reach design clustering clocks net) 0 inside);
        outs = λ other ne. get_or-set_other clocks.outs net other (machine_reach design clustering clocks net) 0 ne;
        ins = λ at other. refl;
      }
      go false e far near = record { met = rw e refl; outs = λ other ne. refl; ins = λ at other. refl }

  module _ (netlist : IsNetlist design.netlist) (lawful : IsClustering (nets_of design) clustering) where
    -- the reach over a worker's waves is that over the clocks
    reach_agrees : (worker : ℕ) (waves : List Wave) (clocks : Clocks) → Views worker waves clocks → (net : ℕ) → IsOwnNet design clustering worker net → step_reach design waves net ≡ machine_reach design clustering clocks net
    unfolding machine_reach
    reach_agrees worker waves clocks v net own =
        driver_reach-agree design (told_upto waves) (seen_clock clustering clocks (cluster_of clustering net)) net (driver_of design.netlist net)
        (all_weaker (IsPin design net) (λ m. told_upto waves m ≡ seen_clock clustering clocks (cluster_of clustering net) m) (λ m pin. go m pin (eqb (cluster_of clustering m) (cluster_of clustering net)) refl) (pins_of (driver_of design.netlist net)) (pins-are design netlist net))
      where
        go : (m : ℕ) → IsPin design net m → (b : Bool) → eqb (cluster_of clustering m) (cluster_of clustering net) ≡ b → told_upto waves m ≡ cond b (out_clock clocks m) (in_clock clocks (cluster_of clustering net) m)
        go m pin true e = v.own m (record { there = pin.0; own = eqb-true _ _ e ∙ own.own })
        go m pin false e =
            let P : ℕ → Type 0 = λ w. has_input design clustering w m ≡ true in
            v.read m (subst P own.own (has_input-from design clustering net m own.there pin.1 (eqb-false _ _ e))) ∙ ap (λ w. in_clock clocks w m) (sym own.own)

    view_steps : (worker : ℕ) (waves : List Wave) (clocks : Clocks) → IsSound design clustering clocks → Views worker waves clocks → (net : ℕ) → IsOwnNet design clustering worker net → has_wave waves net ≡ true
        → Views worker (step_waves design waves (wave_at waves net)) (play design clustering clocks (Step net)).clocks
    view_steps worker waves clocks sound v net own has = record {
      own = λ other mine. mine_too other mine (cases_eq other net);
      read = λ other reads.
          step_still design waves net has other (λ e. has_input-not_own design clustering worker other reads (ap (cluster_of clustering) e ∙ own.own)) ∙ v.read other reads ∙ sym ((goes clocks sound net own.there).ins worker other);
    }
      where
        reach : step_reach design waves net ≡ machine_reach design clustering clocks net
        reach = reach_agrees worker waves clocks v net own

        here : (wave_at (step_waves design waves (wave_at waves net)) net).clock ≡ out_clock (play design clustering clocks (Step net)).clocks net
        here =
            step_clock design waves net has ∙ ap (λ (r : ℕ). cond (ltb (wave_at waves net).clock r) r (wave_at waves net).clock) reach
            ∙ ap (λ (c : ℕ). cond (ltb c (machine_reach design clustering clocks net)) (machine_reach design clustering clocks net) c) (v.own net own)
            ∙ sym (goes clocks sound net own.there).met

        mine_too : (other : ℕ) → IsOwnNet design clustering worker other → (other ≡ net) ⊎ (other ≡ net → ⊥) → (wave_at (step_waves design waves (wave_at waves net)) other).clock ≡ out_clock (play design clustering clocks (Step net)).clocks other
        mine_too other mine (inl e) =
            let P : ℕ → Type 0 = λ n. (wave_at (step_waves design waves (wave_at waves net)) n).clock ≡ out_clock (play design clustering clocks (Step net)).clocks n in
            subst P (sym e) here
        mine_too other mine (inr ne) = step_still design waves net has other ne ∙ v.own other mine ∙ sym ((goes clocks sound net own.there).outs other ne)

    -- a worker stepped these nets of its own
    record Sweeps (worker : ℕ) (waves : List Wave) (before now : Clocks) : Type 0 where
      sound : IsSound design clustering now
      view : Views worker waves now
      outs : (net : ℕ) → (cluster_of clustering net ≡ worker → ⊥) → out_clock now net ≡ out_clock before net
      ins : (at net : ℕ) → in_clock now at net ≡ in_clock before at net

    sweeps_more : (worker : ℕ) (later : List Wave) (before now end : Clocks) (net : ℕ) → IsOwnNet design clustering worker net → Goes net before now → Sweeps worker later now end → Sweeps worker later before end
    sweeps_more worker later before now end net own moved rest = record {
      sound = rest.sound;
      view = rest.view;
      outs = λ other ne. rest.outs other ne ∙ moved.outs other (λ e. ne (ap (cluster_of clustering) e ∙ own.own));
      ins = λ at other. rest.ins at other ∙ moved.ins at other;
    }

    sweeps : (worker : ℕ) (waves : List Wave) (clocks : Clocks) (nets : List ℕ) → IsSound design clustering clocks → Views worker waves clocks → AllByRecursion (IsOwnNet design clustering worker) nets → HasAll waves nets
        → Sweeps worker (stepped_waves design waves nets) clocks (after clocks (map (λ net. Step net) nets))
    sweeps worker waves clocks [] sound v own has = record { sound = sound; view = v; outs = λ net ne. refl; ins = λ at net. refl }
    sweeps worker waves clocks (first ∷ nets) sound v own has =
        let now : Clocks = (play design clustering clocks (Step first)).clocks in
        sweeps_more worker (stepped_waves design (step_waves design waves (wave_at waves first)) nets) clocks now _ first own.0 (goes clocks sound first own.0.there)
        (sweeps worker (step_waves design waves (wave_at waves first)) now nets (play-goes design clustering clocks sound (Step first)).0
        (view_steps worker waves clocks sound v first own.0 has.0) own.1 (has_rest design waves first nets has.0 has.1))

    -- ---- all workers

    module _ (waves : ℕ → List Wave) (has : (worker : ℕ) → worker < clustering.clusters → HasAll (waves worker) (own_nets design clustering worker)) where
      abbrev swept : ℕ → List Wave
      swept worker = stepped_waves design (waves worker) (own_nets design clustering worker)

      -- the workers below one stepped their nets
      pub record Steps (upto : ℕ) (before now : Clocks) : Type 0 where
        pub sound : IsSound design clustering now
        pub done : (net : ℕ) → net < nets_of design → cluster_of clustering net < upto → out_clock now net ≡ (wave_at (swept (cluster_of clustering net)) net).clock
        pub still : (net : ℕ) → upto ≤ cluster_of clustering net → out_clock now net ≡ out_clock before net
        pub ins : (at net : ℕ) → in_clock now at net ≡ in_clock before at net

      module _ (clocks : Clocks) (sound : IsSound design clustering clocks) (views : (worker : ℕ) → worker < clustering.clusters → Views worker (waves worker) clocks) where
        steps_more : (worker : ℕ) (now : Clocks) → worker < clustering.clusters → Steps worker clocks now → Steps (suc worker) clocks (after now (sweep_events design clustering worker now))
        steps_more worker now inside s = record {
          sound = more.sound;
          done = λ net there below. done net there below (cases_eq (cluster_of clustering net) worker);
          still = λ net above. more.outs net (λ e. absurd (omega (arith, above, e))) ∙ s.still net (omega (arith, above));
          ins = λ at net. more.ins at net ∙ s.ins at net;
        }
          where
            view : Views worker (waves worker) now
            view = record {
              own = λ net own. (views worker inside).own net own ∙ sym (s.still net (omega (arith, own.own)));
              read = λ net reads. (views worker inside).read net reads ∙ sym (s.ins worker net);
            }

            more : Sweeps worker (swept worker) now (after now (sweep_events design clustering worker now))
            more = sweeps worker (waves worker) now (own_nets design clustering worker) s.sound view (all_own_nets design clustering worker) (has worker inside)

            done : (net : ℕ) → net < nets_of design → cluster_of clustering net < suc worker → (cluster_of clustering net ≡ worker) ⊎ (cluster_of clustering net ≡ worker → ⊥) → out_clock (after now (sweep_events design clustering worker now)) net ≡ (wave_at (swept (cluster_of clustering net)) net).clock
            done net there below (inl e) = sym (more.view.own net (record { there = there; own = e })) ∙ ap (λ w. (wave_at (swept w) net).clock) (sym e)
            done net there below (inr ne) = more.outs net ne ∙ s.done net there (omega (arith, ne, below))

        steps_to : (upto : ℕ) → upto ≤ clustering.clusters → Steps upto clocks (turns (sweep_events design clustering) upto clocks)
        steps_to zero h = record { sound = sound; done = λ net there none. absurd (omega arith); still = λ net h. refl; ins = λ at net. refl }
        steps_to (suc upto) h =
            subst (Steps (suc upto) clocks) (sym (turns_more (sweep_events design clustering) upto clocks)) (steps_more upto (turns (sweep_events design clustering) upto clocks) (omega arith) (steps_to upto (omega arith)))

        -- after all steps each output clock is that of the wave that its worker's steps left, and no input clock moved
        pub stepped : Steps clustering.clusters clocks (clocks_after design clustering clocks (step_events design clustering clocks))
        stepped = steps_to clustering.clusters (omega arith)
