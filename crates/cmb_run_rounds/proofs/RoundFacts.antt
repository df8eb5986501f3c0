-- Workers' clocks in a round: what the steps come to, what an exchange does, and how far all is known afterwards.
use Rattle.std.proofs.Common.{◌≡◌, ℕ, zero, suc, ◌+◌, ◌<◌, ◌≤◌, Bool, true, false, ◌||◌, List, [], ◌∷◌, ◌++◌, ◌⊎◌, inl, inr, length, map, get_or, set, refl, sym, ◌∙◌, ap, subst, arith, Option, Some, None, IsSome, is_some, Result, Ok, Err, OnOk, IfSome, ◌↔◌, get_or-set_same, get_or-set_other, length-set}
use Rattle.std.specs.List.{list_any}
use Rattle.std.specs.declared.alloc.AllocError.{AllocError}
use Rattle.std.proofs.lemmas.Bool.{cases_eq, cases_lt}
use Rattle.std.proofs.lemmas.List.{length_push}
use Rattle.std.proofs.lemmas.Result.{on_ok_weaker}
use Rattle.cmb_wave.specs.Wave.{Piece, Wave, cut_of, new_wave}
use Rattle.cmb_netlist.specs.Netlist.{IsNetlist}
use Rattle.cmb_design_model.specs.Design.{Design}
use Rattle.cmb_design_model.specs.Exact.{nets_of}
use Rattle.cmb_core_cluster.specs.Clustering.{Clustering, IsClustering, cluster_of, has_input}
use Rattle.cmb_core_cluster.specs.Clusters.{IsDrivenHere, IsSameButWaves, input_slot, told_at}
use Rattle.cmb_core_cluster.specs.Onward.{IsHeldTo, GoesOn}
use Rattle.cmb_core_cluster.specs.Opened.{IsClusterOf, IsOwnNet, held_nets, read_nets}
use Rattle.cmb_core_cluster.specs.Step.{wave_at}
use Rattle.cmb_core_cluster.proofs.Homes.{input_home, input_there}
use Rattle.cmb_core_cluster.proofs.OpenedFacts.{new_here}
use Rattle.cmb_core_cluster.proofs.OnwardFacts.{all_have}
use Rattle.cmb_core_cluster.proofs.OwnFacts.{own_driven}
use Rattle.cmb_core_cluster.proofs.Steps.{wave_at-net}
use Rattle.cmb_core_cluster.proofs.NetByNet.{still_of}
use Rattle.cmb_core_protocol.specs.declared.event.Event.{Event}
use Rattle.cmb_core_protocol.specs.Clocks.{Clocks, out_clock, in_clock, start}
use Rattle.cmb_core_protocol.specs.Run.{clocks_after, IsReachable, IsComplete as IsDone}
use Rattle.cmb_core_protocol.proofs.Machine.{clocks_after-append, reachable-sound, reachable-within, rows_of_zeros, zeros}
use Rattle.cmb_run_text.specs.Collector.{Collector, IsComplete, IsExactFor, wave_of}
use Rattle.cmb_run_exact.specs.Passed.{IsPassed}
use Rattle.cmb_run_exact.proofs.RunClocks.{least_clock-whole}
use Rattle.cmb_run_rounds.specs.RoundEvents.{clocks_of_rounds, exchange_events, pass_events, round_events, step_events}
use Rattle.cmb_run_rounds.specs.Inner.Rounds.{AreAt, IsSwept, RoundWorker, hand_at, known_to, known_at_home, AreHandsOf, AreKnownTo, AreComplete, IsExchanged, IsPassedOn, IsServed, HasWorked}
use Rattle.cmb_core_cluster.proofs.NetReads.{cluster-there, has_input-not_own}
use Rattle.cmb_run_rounds.proofs.EventFacts.{Exchanges, Passes, Steps, Views, exchanged, passes, read_at, read_place, stepped, turns_more}
use Rattle.cmb_run_rounds.proofs.HandFacts.{swept_goes_on}

-- ---- none met want of memory

none_refused : (hands : List RoundWorker) → list_any (λ hand. hand.refused) hands ≡ false → (worker : ℕ) → (hand_at hands worker).refused ≡ false
none_refused [] e worker = refl
none_refused (hand ∷ hands) e worker = go hand.refused refl e worker (λ q k. none_refused hands q k)
  where
    go : (b : Bool) → hand.refused ≡ b → (b || list_any (λ h. h.refused) hands) ≡ false → (k : ℕ) → (list_any (λ h. h.refused) hands ≡ false → (j : ℕ) → (hand_at hands j).refused ≡ false) → (hand_at (hand ∷ hands) k).refused ≡ false
    go true r q k rest = cc
    go false r q zero rest = r
    go false r q (suc k) rest = rest q k

module _ (design : Design) (clustering : Clustering) where
  -- ---- what a net's driver knows of it is no input's

  not_input : (net : ℕ) → has_input design clustering (cluster_of clustering net) net ≡ true → ⊥
  not_input net reads = has_input-not_own design clustering (cluster_of clustering net) net reads refl

  home_there : (hands : List RoundWorker) → AreHandsOf design clustering hands → (net : ℕ) → net < nets_of design → cluster_of clustering net < clustering.clusters
  home_there hands are net there = cluster-there design clustering are.lawful net there

  -- ---- the machine of clocks

  reached_more : (clocks : Clocks) (events : List Event) → IsReachable design clustering clocks → IsReachable design clustering (clocks_after design clustering clocks events)
  reached_more clocks events r =
      (r.0 ++ events, clocks_after-append design clustering (start design clustering) r.0 events ∙ ap (λ (c : Clocks). clocks_after design clustering c events) r.1)

  -- none knows a net further than the one that drives it
  within : (hands : List RoundWorker) → AreHandsOf design clustering hands → (worker net : ℕ) → worker < clustering.clusters → has_input design clustering worker net ≡ true → known_to hands worker net ≤ known_at_home clustering hands net
  within hands are worker net inside reads =
      omega (arith, are.at.ins worker net inside reads, are.at.outs net (input_there design clustering worker net are.netlist reads), (reachable-within design clustering are.clocks are.at.reached).ins worker net)

  -- ---- the steps

  module _ (old new : List RoundWorker) (are : AreHandsOf design clustering old) (count : length new ≡ length old)
      (worked : (worker : ℕ) → worker < length old → HasWorked design clustering (hand_at old worker) (hand_at new worker))
      (calm : list_any (λ hand. hand.refused) new ≡ false) where
    abbrev waves : ℕ → List Wave
    waves worker = (hand_at old worker).cluster.waves

    swept : (worker : ℕ) → worker < clustering.clusters → IsSwept design clustering worker (hand_at old worker).cluster.waves (hand_at new worker).cluster.waves
    swept worker inside = (worked worker (omega (arith, are.count))).swept worker (are.each worker inside) (none_refused new calm worker)

    pub all_go_on : (worker : ℕ) → worker < clustering.clusters → GoesOn design clustering worker (hand_at old worker).cluster.waves (hand_at new worker).cluster.waves
    all_go_on worker inside = swept_goes_on design clustering worker (hand_at old worker).cluster (hand_at new worker).cluster.waves are.netlist (are.each worker inside) (swept worker inside)

    -- the machine of clocks makes the same steps
    pub steps_at : (clocks : Clocks) → AreAt design clustering clocks old → AreAt design clustering (clocks_after design clustering clocks (step_events design clustering clocks)) new
    steps_at clocks at = record {
      reached = reached_more clocks (step_events design clustering clocks) at.reached;
      outs = λ net there.
          let inside : cluster_of clustering net < clustering.clusters = home_there old are net there in
          swept (cluster_of clustering net) inside net ∙ sym (s.done net there inside);
      ins = λ worker net inside reads. (all_go_on worker inside).still net reads ∙ at.ins worker net inside reads ∙ sym (s.ins worker net);
    }
      where
        views : (worker : ℕ) → worker < clustering.clusters → Views design clustering worker (hand_at old worker).cluster.waves clocks
        views worker inside = record {
          own = λ net own. let P : ℕ → Type 0 = λ w. known_to old w net ≡ out_clock clocks net in subst P own.own (at.outs net own.there);
          read = λ net reads. at.ins worker net inside reads;
        }

        s : Steps design clustering are.netlist are.lawful waves (λ worker inside. all_have design are.netlist clustering worker (hand_at old worker).cluster (are.each worker inside)) clustering.clusters clocks (clocks_after design clustering clocks (step_events design clustering clocks))
        s = stepped design clustering are.netlist are.lawful waves (λ worker inside. all_have design are.netlist clustering worker (hand_at old worker).cluster (are.each worker inside)) clocks (reachable-sound design clustering clocks at.reached) views

    pub stepped_hands : AreHandsOf design clustering new
    stepped_hands = record {
      netlist = are.netlist;
      lawful = are.lawful;
      count = count ∙ are.count;
      each = λ worker inside. still_of design clustering worker (hand_at old worker).cluster (hand_at new worker).cluster (worked worker (omega (arith, are.count))).same (are.each worker inside);
      clocks = clocks_after design clustering are.clocks (step_events design clustering are.clocks);
      at = steps_at are.clocks are.at;
    }

  -- ---- one net is passed on to one worker

  module _ (reader net : ℕ) (reads : has_input design clustering reader net ≡ true) where
    abbrev passed : List RoundWorker → List RoundWorker → Type 0
    passed = IsPassedOn clustering reader net

    pub passed_home : (old new : List RoundWorker) → IsPassedOn clustering reader net old new → (other : ℕ) → known_at_home clustering new other ≡ known_at_home clustering old other
    passed_home old new p other = p.others (cluster_of clustering other) other (λ e f. has_input-not_own design clustering reader net reads (ap (cluster_of clustering) (sym f) ∙ e))

    -- the machine of clocks makes the same post and delivery
    pub passed_at : (old new : List RoundWorker) → AreHandsOf design clustering old → reader < clustering.clusters → IsPassedOn clustering reader net old new
        → (clocks : Clocks) → AreAt design clustering clocks old → AreAt design clustering (clocks_after design clustering clocks (pass_events reader net clocks)) new
    passed_at old new are inside p clocks at = record {
      reached = reached_more clocks (pass_events reader net clocks) at.reached;
      outs = λ other there. passed_home old new p other ∙ at.outs other there ∙ sym (e.outs other);
      ins = λ worker other within reads'. go worker other within reads' (cases_eq worker reader) (cases_eq other net);
    }
      where
        there : net < nets_of design
        there = input_there design clustering reader net are.netlist reads

        e : Passes design clustering reader net clocks (clocks_after design clustering clocks (pass_events reader net clocks))
        e = passes design clustering reader inside clocks (reachable-sound design clustering clocks at.reached) net there reads

        go : (worker other : ℕ) → worker < clustering.clusters → has_input design clustering worker other ≡ true → (worker ≡ reader) ⊎ (worker ≡ reader → ⊥) → (other ≡ net) ⊎ (other ≡ net → ⊥)
            → known_to new worker other ≡ in_clock (clocks_after design clustering clocks (pass_events reader net clocks)) worker other
        go worker other within reads' (inl same) (inl it) =
            let P : ℕ → Type 0 = λ w. known_to new w other ≡ in_clock (clocks_after design clustering clocks (pass_events reader net clocks)) w other in
            let Q : ℕ → Type 0 = λ n. known_to new reader n ≡ in_clock (clocks_after design clustering clocks (pass_events reader net clocks)) reader n in
            subst P (sym same) (subst Q (sym it) (p.met ∙ at.outs net there ∙ sym e.met))
        go worker other within reads' (inl same) (inr ne) = p.others worker other (λ _ f. ne f) ∙ at.ins worker other within reads' ∙ sym (e.others worker other (λ _ f. ne f))
        go worker other within reads' (inr ne) _ = p.others worker other (λ f _. ne f) ∙ at.ins worker other within reads' ∙ sym (e.others worker other (λ f _. ne f))

    pub passed_hands : (old new : List RoundWorker) → AreHandsOf design clustering old → reader < clustering.clusters → length new ≡ length old
        → ((worker : ℕ) → worker < clustering.clusters → IsSameButWaves (hand_at old worker).cluster (hand_at new worker).cluster)
        → IsPassedOn clustering reader net old new → AreHandsOf design clustering new
    passed_hands old new are inside count same p = record {
      netlist = are.netlist;
      lawful = are.lawful;
      count = count ∙ are.count;
      each = λ worker within. still_of design clustering worker (hand_at old worker).cluster (hand_at new worker).cluster (same worker within) (are.each worker within);
      clocks = clocks_after design clustering are.clocks (pass_events reader net are.clocks);
      at = passed_at old new are inside p are.clocks are.at;
    }

    -- the worker took a piece
    module _ (old new : List RoundWorker) (h : RoundWorker) (inside : reader < length old) (put : new ≡ set old reader h) where
      abbrev none : RoundWorker
      none = record { cluster = record { horizon = 0; processes = []; waves = [] }; refused = false }

      here : hand_at new reader ≡ h
      here = ap (λ hs. hand_at hs reader) put ∙ get_or-set_same old reader h none inside

      away : (worker : ℕ) → (worker ≡ reader → ⊥) → hand_at new worker ≡ hand_at old worker
      away worker ne = ap (λ hs. hand_at hs worker) put ∙ get_or-set_other old reader worker h none ne

      pub taken_passed : (to : ℕ) → to ≡ known_at_home clustering old net → IsPassed net to (hand_at old reader).cluster.waves h.cluster.waves → IsPassedOn clustering reader net old new
      taken_passed to home p = record {
        met = ap (λ (g : RoundWorker). (wave_at g.cluster.waves net).clock) here ∙ p.met ∙ home;
        others = λ worker other ne. go worker other ne (cases_eq worker reader);
      }
        where
          go : (worker other : ℕ) → (worker ≡ reader → other ≡ net → ⊥) → (worker ≡ reader) ⊎ (worker ≡ reader → ⊥) → known_to new worker other ≡ known_to old worker other
          go worker other ne (inl e) =
              let P : ℕ → Type 0 = λ w. known_to new w other ≡ known_to old w other in
              subst P (sym e) (ap (λ (g : RoundWorker). (wave_at g.cluster.waves other).clock) here ∙ p.others other (λ f. ne e f))
          go worker other ne (inr apart) = ap (λ (g : RoundWorker). (wave_at g.cluster.waves other).clock) (away worker apart)

      pub taken_same : IsSameButWaves (hand_at old reader).cluster h.cluster → (worker : ℕ) → IsSameButWaves (hand_at old worker).cluster (hand_at new worker).cluster
      taken_same same worker = go (cases_eq worker reader)
        where
          go : (worker ≡ reader) ⊎ (worker ≡ reader → ⊥) → IsSameButWaves (hand_at old worker).cluster (hand_at new worker).cluster
          go (inl e) =
              let P : ℕ → Type 0 = λ w. IsSameButWaves (hand_at old w).cluster (hand_at new w).cluster in
              let Q : RoundWorker → Type 0 = λ g. IsSameButWaves (hand_at old reader).cluster g.cluster in
              subst P (sym e) (subst Q (sym here) same)
          go (inr apart) =
              let Q : RoundWorker → Type 0 = λ g. IsSameButWaves (hand_at old worker).cluster g.cluster in
              subst Q (sym (away worker apart)) (record { horizon = refl; processes = refl; nets = refl })

      pub taken_count : length new ≡ length old
      taken_count = ap length put ∙ length-set old reader h

    -- the worker knew all there is of the net
    pub nothing_passed : (hands : List RoundWorker) → AreHandsOf design clustering hands → reader < clustering.clusters → (known_to hands reader net < known_at_home clustering hands net → ⊥) → IsPassedOn clustering reader net hands hands
    nothing_passed hands are inside full = record { met = go (cases_lt (known_to hands reader net) (known_at_home clustering hands net)); others = λ worker other ne. refl }
      where
        go : (known_to hands reader net < known_at_home clustering hands net) ⊎ (known_at_home clustering hands net ≤ known_to hands reader net) → known_to hands reader net ≡ known_at_home clustering hands net
        go (inl less) = absurd (full less)
        go (inr past) = omega (arith, within hands are reader net inside reads)

  -- ---- all nets are passed on to one worker

  -- so many of the nets that a worker reads were passed on to it
  pub record IsServedTo (reader place : ℕ) (old now : List RoundWorker) : Type 0 where
    pub kept : AreHandsOf design clustering now
    pub met : (k : ℕ) → k < place → known_to now reader (get_or (read_nets design clustering reader) k 0) ≡ known_at_home clustering now (get_or (read_nets design clustering reader) k 0)
    pub others : (worker net : ℕ) → (worker ≡ reader → has_input design clustering reader net ≡ true → ⊥) → known_to now worker net ≡ known_to old worker net

  pub served_more : (reader place net : ℕ) (old now new : List RoundWorker) → IsServedTo reader place old now → net ≡ get_or (read_nets design clustering reader) place 0 → has_input design clustering reader net ≡ true
      → AreHandsOf design clustering new → IsPassedOn clustering reader net now new → IsServedTo reader (place + 1) old new
  served_more reader place net old now new s is reads kept p = record {
    kept = kept;
    met = λ k h. go k (cases_lt k place) h (cases_eq (get_or (read_nets design clustering reader) k 0) net);
    others = λ worker other ne. p.others worker other (λ e f. ne e (let P : ℕ → Type 0 = λ n. has_input design clustering reader n ≡ true in subst P (sym f) reads)) ∙ s.others worker other ne;
  }
    where
      nth : ℕ → ℕ
      nth k = get_or (read_nets design clustering reader) k 0

      here : known_to new reader net ≡ known_at_home clustering new net
      here = p.met ∙ sym (passed_home reader net reads now new p net)

      go : (k : ℕ) → (k < place) ⊎ (place ≤ k) → k < place + 1 → (nth k ≡ net) ⊎ (nth k ≡ net → ⊥) → known_to new reader (nth k) ≡ known_at_home clustering new (nth k)
      go k _ h (inl same) = let P : ℕ → Type 0 = λ n. known_to new reader n ≡ known_at_home clustering new n in subst P (sym same) here
      go k (inl less) h (inr ne) = p.others reader (nth k) (λ _ f. ne f) ∙ s.met k less ∙ sym (passed_home reader net reads now new p (nth k))
      go k (inr past) h (inr ne) = let e : k ≡ place = omega arith in absurd (ne (ap nth e ∙ sym is))

  pub served_all : (reader place : ℕ) (old now : List RoundWorker) → IsServedTo reader place old now → length (read_nets design clustering reader) ≤ place → IsServed design clustering reader old now
  served_all reader place old now s all = record {
    met = λ net reads.
        let at = read_place design clustering reader net (input_there design clustering reader net s.kept.netlist reads) reads in
        let P : ℕ → Type 0 = λ n. known_to now reader n ≡ known_at_home clustering now n in
        subst P at.2 (s.met at.0 (omega (arith, at.1, all)));
    others = s.others;
  }

  pub served_none : (reader : ℕ) (hands : List RoundWorker) → AreHandsOf design clustering hands → IsServedTo reader 0 hands hands
  served_none reader hands are = record { kept = are; met = λ k h. absurd (omega arith); others = λ worker net ne. refl }

  -- ---- all nets are passed on to all workers

  -- the workers below one were given what is new
  pub record IsExchangedTo (upto : ℕ) (old now : List RoundWorker) : Type 0 where
    pub kept : AreHandsOf design clustering now
    pub met : (worker net : ℕ) → worker < upto → has_input design clustering worker net ≡ true → known_to now worker net ≡ known_at_home clustering now net
    pub homes : (net : ℕ) → known_at_home clustering now net ≡ known_at_home clustering old net

  pub exchanged_none : (hands : List RoundWorker) → AreHandsOf design clustering hands → IsExchangedTo 0 hands hands
  exchanged_none hands are = record { kept = are; met = λ worker net h. absurd (omega arith); homes = λ net. refl }

  pub exchanged_more : (reader : ℕ) (old now new : List RoundWorker) → IsExchangedTo reader old now → AreHandsOf design clustering new → IsServed design clustering reader now new → IsExchangedTo (reader + 1) old new
  exchanged_more reader old now new x kept s = record {
    kept = kept;
    met = λ worker net h reads. go worker net h reads (cases_eq worker reader);
    homes = λ net. home net ∙ x.homes net;
  }
    where
      home : (net : ℕ) → known_at_home clustering new net ≡ known_at_home clustering now net
      home net = s.others (cluster_of clustering net) net (λ e reads. has_input-not_own design clustering reader net reads e)

      go : (worker net : ℕ) → worker < reader + 1 → has_input design clustering worker net ≡ true → (worker ≡ reader) ⊎ (worker ≡ reader → ⊥) → known_to new worker net ≡ known_at_home clustering new net
      go worker net h reads (inl e) =
          let P : ℕ → Type 0 = λ w. known_to new w net ≡ known_at_home clustering new net in
          let Q : ℕ → Type 0 = λ w. has_input design clustering w net ≡ true in
          subst P (sym e) (s.met net (subst Q e reads))
      go worker net h reads (inr ne) = let less : worker < reader = omega arith in s.others worker net (λ e _. ne e) ∙ x.met worker net less reads ∙ sym (home net)

  pub exchanged_all : (upto : ℕ) (old now : List RoundWorker) → IsExchangedTo upto old now → clustering.clusters ≤ upto → IsExchanged design clustering now
  exchanged_all upto old now x all = λ worker net inside reads. x.met worker net (omega arith) reads

  -- the machine of clocks makes the same exchange
  pub exchanged_at : (old new : List RoundWorker) → AreHandsOf design clustering old → IsExchanged design clustering new → ((net : ℕ) → known_at_home clustering new net ≡ known_at_home clustering old net)
      → (clocks : Clocks) → AreAt design clustering clocks old → AreAt design clustering (clocks_after design clustering clocks (exchange_events design clustering clocks)) new
  exchanged_at old new are exchanged' homes clocks at = record {
    reached = reached_more clocks (exchange_events design clustering clocks) at.reached;
    outs = λ net there. homes net ∙ at.outs net there ∙ sym (x.outs net);
    ins = λ worker net inside reads.
        exchanged' worker net inside reads ∙ homes net ∙ at.outs net (input_there design clustering worker net are.netlist reads) ∙ sym (x.outs net) ∙ sym (x.met worker net inside reads);
  }
    where
      x : Exchanges design clustering clustering.clusters clocks (clocks_after design clustering clocks (exchange_events design clustering clocks))
      x = exchanged design clustering are.netlist clocks (reachable-sound design clustering clocks at.reached)

  -- ---- a round

  pub round_at : (clocks : Clocks) (hands : List RoundWorker)
      → (let mid = clocks_after design clustering clocks (step_events design clustering clocks) in AreAt design clustering (clocks_after design clustering mid (exchange_events design clustering mid)) hands)
      → AreAt design clustering (clocks_after design clustering clocks (round_events design clustering clocks)) hands
  round_at clocks hands =
      subst (λ (c : Clocks). AreAt design clustering c hands) (sym (clocks_after-append design clustering clocks (step_events design clustering clocks) (exchange_events design clustering (clocks_after design clustering clocks (step_events design clustering clocks)))))

  pub rounds_more : (many next : ℕ) (hands : List RoundWorker) → suc many ≡ next
      → (let before = clocks_of_rounds design clustering many in AreAt design clustering (clocks_after design clustering before (round_events design clustering before)) hands)
      → AreAt design clustering (clocks_of_rounds design clustering next) hands
  rounds_more many next hands e at =
      let P : Clocks → Type 0 = λ c. AreAt design clustering c hands in
      let Q : ℕ → Type 0 = λ n. AreAt design clustering (clocks_of_rounds design clustering n) hands in
      subst Q e (subst P (sym (turns_more design clustering (λ round. round_events design clustering) many (start design clustering))) at)

  pub round_brings_on : (old mid new : List RoundWorker) → AreHandsOf design clustering old
      → ((worker : ℕ) → worker < clustering.clusters → GoesOn design clustering worker (hand_at old worker).cluster.waves (hand_at mid worker).cluster.waves)
      → ((net : ℕ) → known_at_home clustering new net ≡ known_at_home clustering mid net) → IsExchanged design clustering new
      → (tick : ℕ) → AreKnownTo design clustering tick old → suc tick ≤ design.horizon → AreKnownTo design clustering (suc tick) new
  round_brings_on old mid new are on homes exchanged tick at within = record {
    outs = λ net there. out net there;
    ins = λ worker net inside reads. omega (arith, exchanged worker net inside reads, out net (input_there design clustering worker net are.netlist reads));
  }
    where
      held : (worker : ℕ) → worker < clustering.clusters → IsHeldTo design clustering worker tick (hand_at old worker).cluster.waves
      held worker inside = record {
        driven = λ net own. let P : ℕ → Type 0 = λ w. tick ≤ known_to old w net in subst P own.own (at.outs net own.there);
        given = λ net reads. at.ins worker net inside reads;
      }

      out : (net : ℕ) → net < nets_of design → suc tick ≤ known_at_home clustering new net
      out net there =
          let home : cluster_of clustering net < clustering.clusters = home_there old are net there in
          omega (arith, (on (cluster_of clustering net) home).further tick net (held (cluster_of clustering net) home) within (record { there = there; own = refl }), homes net)

-- ---- hands that are dealt one after the other

nth_first : (hands : List RoundWorker) (hand : RoundWorker) (k : ℕ) → k < length hands → hand_at (hands ++ hand ∷ []) k ≡ hand_at hands k
nth_first [] hand k h = absurd (omega arith)
nth_first (first ∷ hands) hand zero h = refl
nth_first (first ∷ hands) hand (suc k) h = nth_first hands hand k (omega arith)

nth_last : (hands : List RoundWorker) (hand : RoundWorker) → hand_at (hands ++ hand ∷ []) (length hands) ≡ hand
nth_last [] hand = refl
nth_last (first ∷ hands) hand = nth_last hands hand

-- the first workers have their clusters, newly opened
pub record AreDealt (design : Design) (clustering : Clustering) (many : ℕ) (hands : List RoundWorker) : Type 0 where
  pub count : length hands ≡ many
  pub each : (k : ℕ) → k < many → IsClusterOf design clustering k (hand_at hands k).cluster
  pub new : (k : ℕ) → k < many → (hand_at hands k).cluster.waves ≡ map new_wave (held_nets design clustering k)

pub dealt_more : (design : Design) (clustering : Clustering) (many : ℕ) (hands : List RoundWorker) (hand : RoundWorker) → AreDealt design clustering many hands → IsClusterOf design clustering many hand.cluster → hand.cluster.waves ≡ map new_wave (held_nets design clustering many)
    → AreDealt design clustering (many + 1) (hands ++ hand ∷ [])
dealt_more design clustering many hands hand dealt of new = record {
  count = length_push hands hand ∙ ap (λ n. n + 1) dealt.count;
  each = λ k h. (go k (cases_lt k many) h).0;
  new = λ k h. (go k (cases_lt k many) h).1;
}
  where
    is : ℕ → RoundWorker → Type 0
    is k g = IsClusterOf design clustering k g.cluster × (g.cluster.waves ≡ map new_wave (held_nets design clustering k))

    go : (k : ℕ) → (k < many) ⊎ (many ≤ k) → k < many + 1 → is k (hand_at (hands ++ hand ∷ []) k)
    go k (inl less) h = subst (is k) (sym (nth_first hands hand k (omega (arith, dealt.count)))) (dealt.each k less, dealt.new k less)
    go k (inr past) h =
        let last : length hands ≡ k = omega (arith, dealt.count) in
        let here : many ≡ k = omega arith in
        let P : ℕ → Type 0 = λ n. is n (hand_at (hands ++ hand ∷ []) k) in
        let Q : ℕ → Type 0 = λ n. is many (hand_at (hands ++ hand ∷ []) n) in
        subst P here (subst Q last (subst (is many) (sym (nth_last hands hand)) (of, new)))

pub dealt_hands : (design : Design) (clustering : Clustering) (many : ℕ) (hands : List RoundWorker) → IsNetlist design.netlist → IsClustering (nets_of design) clustering → AreDealt design clustering many hands → many ≡ clustering.clusters
    → AreHandsOf design clustering hands × AreAt design clustering (start design clustering) hands
dealt_hands design clustering many hands netlist lawful dealt all = (
  record {
    netlist = netlist;
    lawful = lawful;
    count = dealt.count ∙ all;
    each = λ worker inside. dealt.each worker (omega (arith, all));
    clocks = start design clustering;
    at = at;
  },
  at,
)
  where
    none : (worker net : ℕ) → worker < clustering.clusters → known_to hands worker net ≡ 0
    none worker net inside = ap (λ ws. (wave_at ws net).clock) (dealt.new worker (omega (arith, all))) ∙ ap (λ (w : Wave). w.clock) (new_here (held_nets design clustering worker) net)

    at : AreAt design clustering (start design clustering) hands
    at = record {
      reached = ([], refl);
      outs = λ net there. none (cluster_of clustering net) net (cluster-there design clustering lawful net there) ∙ sym (zeros (nets_of design) net);
      ins = λ worker net inside reads. none worker net inside ∙ sym (rows_of_zeros clustering.clusters (nets_of design) worker net);
    }

-- ---- at the end

-- so many workers haven't given up their waves yet, and what the others drove is known
pub record AreHandedOver (design : Design) (clustering : Clustering) (start left : List RoundWorker) (known : ℕ → ℕ) : Type 0 where
  pub count : length left ≤ length start
  pub same : (k : ℕ) → k < length left → hand_at left k ≡ hand_at start k
  pub met : (net : ℕ) → net < nets_of design → length left ≤ cluster_of clustering net → design.horizon ≤ known net

pub handed_more : (design : Design) (clustering : Clustering) (start rest : List RoundWorker) (hand : RoundWorker) (known later : ℕ → ℕ)
    → AreHandsOf design clustering start → AreComplete design clustering start → AreHandedOver design clustering start (rest ++ hand ∷ []) known
    → ((net : ℕ) → known net ≤ later net)
    → ((worker net : ℕ) → IsClusterOf design clustering worker hand.cluster → IsOwnNet design clustering worker net → (wave_at hand.cluster.waves net).clock ≤ later net)
    → AreHandedOver design clustering start rest later
handed_more design clustering start rest hand known later are complete so keeps given = record {
  count = omega (arith, long, so.count);
  same = λ k h. sym (nth_first rest hand k h) ∙ so.same k (omega (arith, long, h));
  met = λ net there h. go net there h (cases_eq (cluster_of clustering net) (length rest));
}
  where
    long : length (rest ++ hand ∷ []) ≡ length rest + 1
    long = length_push rest hand

    this : hand ≡ hand_at start (length rest)
    this = sym (nth_last rest hand) ∙ so.same (length rest) (omega (arith, long))

    go : (net : ℕ) → net < nets_of design → length rest ≤ cluster_of clustering net → (cluster_of clustering net ≡ length rest) ⊎ (cluster_of clustering net ≡ length rest → ⊥) → design.horizon ≤ later net
    go net there h (inl own) =
        let inside : length rest < clustering.clusters = omega (arith, long, so.count, are.count) in
        let of : IsClusterOf design clustering (length rest) hand.cluster = subst (λ (g : RoundWorker). IsClusterOf design clustering (length rest) g.cluster) (sym this) (are.each (length rest) inside) in
        let P : ℕ → Type 0 = λ n. design.horizon ≤ known_to start n net in
        let Q : RoundWorker → Type 0 = λ g. design.horizon ≤ (wave_at g.cluster.waves net).clock in
        let known' : design.horizon ≤ (wave_at hand.cluster.waves net).clock = subst Q (sym this) (subst P own (complete net there)) in
        omega (arith, known', given (length rest) net of (record { there = there; own = own }))
    go net there h (inr ne) = omega (arith, so.met net there (omega (arith, long, ne)), keeps net)

pub handed_none : (design : Design) (clustering : Clustering) (hands : List RoundWorker) (known : ℕ → ℕ) → AreHandsOf design clustering hands → AreHandedOver design clustering hands hands known
handed_none design clustering hands known are = record {
  count = omega arith;
  same = λ k h. refl;
  met = λ net there h. absurd (omega (arith, h, are.count, cluster-there design clustering are.lawful net there));
}

-- the workers below one know their nets to the end
pub complete_more : (design : Design) (clustering : Clustering) (hands : List RoundWorker) (many : ℕ) → AreHandsOf design clustering hands → clustering.clusters ≤ many
    → ((k net : ℕ) → k < many → k < clustering.clusters → IsOwnNet design clustering k net → known_to hands k net ≡ design.horizon) → AreComplete design clustering hands
complete_more design clustering hands many are all known = λ net there.
    let home : cluster_of clustering net < clustering.clusters = cluster-there design clustering are.lawful net there in
    omega (arith, known (cluster_of clustering net) net (omega (arith, home, all)) home (record { there = there; own = refl }))

-- the machine of clocks is complete where the workers are
pub done_at : (design : Design) (clustering : Clustering) (hands : List RoundWorker) (clocks : Clocks) → AreAt design clustering clocks hands → AreComplete design clustering hands → IsDone design clocks
done_at design clustering hands clocks at complete net there =
    omega (arith, at.outs net there, complete net there, (reachable-within design clustering clocks at.reached).outs net)

-- and the workers are where it is
pub complete_there : (design : Design) (clustering : Clustering) (hands : List RoundWorker) (clocks : Clocks) → AreAt design clustering clocks hands → IsDone design clocks → AreComplete design clustering hands
complete_there design clustering hands clocks at done net there = omega (arith, at.outs net there, done net there)

-- each worker then knows its nets just to the end
pub complete_own : (design : Design) (clustering : Clustering) (hands : List RoundWorker) → AreHandsOf design clustering hands → AreComplete design clustering hands
    → (worker net : ℕ) → IsOwnNet design clustering worker net → known_to hands worker net ≡ design.horizon
complete_own design clustering hands are complete worker net own =
    let P : ℕ → Type 0 = λ w. known_to hands w net ≡ design.horizon in
    subst P own.own (omega (arith, are.at.outs net own.there, complete net own.there, (reachable-within design clustering are.clocks are.at.reached).outs net))

-- no round but the last one was enough
pub not_yet : (design : Design) (clustering : Clustering) (tick next : ℕ) (hands : List RoundWorker) → suc tick ≡ next
    → ((fewer : ℕ) → 0 < fewer → fewer ≤ tick → IsDone design (clocks_of_rounds design clustering fewer) → ⊥) → AreAt design clustering (clocks_of_rounds design clustering next) hands
    → (AreComplete design clustering hands → ⊥) → (fewer : ℕ) → 0 < fewer → fewer ≤ next → IsDone design (clocks_of_rounds design clustering fewer) → ⊥
not_yet design clustering tick next hands e before at not_all fewer some few = go (cases_eq fewer next)
  where
    go : (fewer ≡ next) ⊎ (fewer ≡ next → ⊥) → IsDone design (clocks_of_rounds design clustering fewer) → ⊥
    go (inl same) done = not_all (complete_there design clustering hands (clocks_of_rounds design clustering next) at (subst (λ n. IsDone design (clocks_of_rounds design clustering n)) same done))
    go (inr ne) done = before fewer some (omega (arith, few, e, ne)) done

pub complete_at : (design : Design) (collector : Collector) → IsExactFor design collector → ((net : ℕ) → net < nets_of design → design.horizon ≤ (wave_of collector.waves net).clock) → IsComplete collector
complete_at design collector exact known =
    least_clock-whole collector.horizon collector.waves
    (λ net h. omega (arith, known net (omega (arith, h, exact.opened.nets)), exact.opened.horizon, (exact.collected net h).within))

-- ---- one net by its place and by its worker

-- what is read by any default is the worker's
pub nth_any : (hands : List RoundWorker) (k : ℕ) (d : RoundWorker) → k < length hands → get_or hands k d ≡ hand_at hands k
nth_any [] k d h = absurd (omega arith)
nth_any (hand ∷ hands) zero d h = refl
nth_any (hand ∷ hands) (suc k) d h = nth_any hands k d (omega arith)

module _ (design : Design) (clustering : Clustering) (hands : List RoundWorker) (are : AreHandsOf design clustering hands) (reader net : ℕ) (inside : reader < clustering.clusters) (reads : has_input design clustering reader net ≡ true) where
  there : net < nets_of design
  there = input_there design clustering reader net are.netlist reads

  input_some : IsSome (input_slot (hand_at hands reader).cluster net)
  input_some = go (input_slot (hand_at hands reader).cluster net) (input_home design clustering reader (hand_at hands reader).cluster (are.each reader inside) are.netlist net ∙ reads)
    where
      go : (o : Option ℕ) → is_some o ≡ true → IsSome o
      go None e = cc
      go (Some k) e = refl

  -- the worker's input clock
  pub told_known : told_at (λ wave. wave.clock) (hand_at hands reader).cluster net (input_slot (hand_at hands reader).cluster net) ≡ Some (known_to hands reader net)
  told_known = go (input_slot (hand_at hands reader).cluster net) input_some
    where
      go : (o : Option ℕ) → IsSome o → told_at (λ wave. wave.clock) (hand_at hands reader).cluster net o ≡ Some (known_to hands reader net)
      go None e = cc
      go (Some k) e = refl

  -- a piece of what is new is taken, and then the worker knows the net as far as its driver
  pub pass_taken : (h : RoundWorker) (known : ℕ) → known ≡ known_to hands reader net → known < known_at_home clustering hands net
      → (piece : Piece) → piece ≡ cut_of (wave_at (hand_at hands (cluster_of clustering net)).cluster.waves net) known
      → IsSameButWaves (hand_at hands reader).cluster h.cluster → (r : Result (Unit {0}) AllocError)
      → (IsSome (input_slot (hand_at hands reader).cluster piece.net) → piece.from ≤ (wave_at (hand_at hands reader).cluster.waves piece.net).clock → (wave_at (hand_at hands reader).cluster.waves piece.net).clock < piece.to → OnOk r (IsPassed piece.net piece.to (hand_at hands reader).cluster.waves h.cluster.waves))
      → OnOk r (AreHandsOf design clustering (set hands reader h) × IsPassedOn clustering reader net hands (set hands reader h))
  pass_taken h known is less piece cut same r passes' = on_ok_weaker r both (at_net input_some (omega (arith, is)) (omega (arith, is, less)))
    where
      old : List Wave
      old = (hand_at hands reader).cluster.waves

      away : Wave
      away = wave_at (hand_at hands (cluster_of clustering net)).cluster.waves net

      Passes : ℕ → Type 0
      Passes n = IsSome (input_slot (hand_at hands reader).cluster n) → known ≤ (wave_at old n).clock → (wave_at old n).clock < away.clock → OnOk r (IsPassed n away.clock old h.cluster.waves)

      Takes : Piece → Type 0
      Takes p = IsSome (input_slot (hand_at hands reader).cluster p.net) → p.from ≤ (wave_at old p.net).clock → (wave_at old p.net).clock < p.to → OnOk r (IsPassed p.net p.to old h.cluster.waves)

      of_cut : Takes (cut_of away known)
      of_cut = subst Takes cut passes'

      at_net : Passes net
      at_net = subst Passes (wave_at-net (hand_at hands (cluster_of clustering net)).cluster.waves net) of_cut

      long : reader < length hands
      long = omega (arith, inside, are.count)

      both : IsPassed net away.clock old h.cluster.waves → AreHandsOf design clustering (set hands reader h) × IsPassedOn clustering reader net hands (set hands reader h)
      both p =
          let on : IsPassedOn clustering reader net hands (set hands reader h) = taken_passed design clustering reader net reads hands (set hands reader h) h long refl away.clock refl p in (
            passed_hands design clustering reader net reads hands (set hands reader h) are inside (taken_count design clustering reader net reads hands (set hands reader h) h long refl)
                (λ worker _. taken_same design clustering reader net reads hands (set hands reader h) h long refl same worker) on,
            on,
          )

  -- where nothing is new the worker knows the net as far already
  pub pass_nothing : (known : ℕ) → known ≡ known_to hands reader net → (o : Option Piece) → o ≡ None
      → (IsSome o ↔ (IsDrivenHere (hand_at hands (cluster_of clustering net)).cluster net × (known < (wave_at (hand_at hands (cluster_of clustering net)).cluster.waves net).clock)))
      → IsPassedOn clustering reader net hands hands
  pass_nothing known is o none new =
      nothing_passed design clustering reader net reads hands are inside
      (λ less. no_piece o none (new.1 (own_driven design clustering (cluster_of clustering net) (hand_at hands (cluster_of clustering net)).cluster (are.each (cluster_of clustering net) (home_there design clustering hands are net there)) net (record { there = there; own = refl }), omega (arith, is, less))))
    where
      no_piece : (o : Option Piece) → o ≡ None → IsSome o → ⊥
      no_piece None e s = cc
      no_piece (Some p) e s = cc

  long_enough : reader < length hands
  long_enough = omega (arith, inside, are.count)

  pub told_any : (d : RoundWorker) → told_at (λ wave. wave.clock) (get_or hands reader d).cluster net (input_slot (get_or hands reader d).cluster net) ≡ Some (known_to hands reader net)
  told_any d = ap (λ (h : RoundWorker). told_at (λ wave. wave.clock) h.cluster net (input_slot h.cluster net)) (nth_any hands reader d long_enough) ∙ told_known

  home_long : (home : ℕ) → home ≡ cluster_of clustering net → home < length hands
  home_long home e = omega (arith, e, home_there design clustering hands are net there, are.count)

  -- the same of what was read
  module _ (home : ℕ) (at : home ≡ cluster_of clustering net) (d e : RoundWorker) (known : ℕ) (is : Some known ≡ Some (known_to hands reader net)) (o : Option Piece) where
    known_is : known ≡ known_to hands reader net
    known_is = cc

    away_is : get_or hands home e ≡ hand_at hands (cluster_of clustering net)
    away_is = nth_any hands home e (home_long home at) ∙ ap (hand_at hands) at

    pub read_taken : (new : IsSome o ↔ (IsDrivenHere (get_or hands home e).cluster net × (known < (wave_at (get_or hands home e).cluster.waves net).clock)))
        → IfSome o (λ piece. piece ≡ cut_of (wave_at (get_or hands home e).cluster.waves net) known) → (piece : Piece) → o ≡ Some piece
        → (h : RoundWorker) → IsSameButWaves (get_or hands reader d).cluster h.cluster → (r : Result (Unit {0}) AllocError)
        → (IsSome (input_slot (get_or hands reader d).cluster piece.net) → piece.from ≤ (wave_at (get_or hands reader d).cluster.waves piece.net).clock → (wave_at (get_or hands reader d).cluster.waves piece.net).clock < piece.to → OnOk r (IsPassed piece.net piece.to (get_or hands reader d).cluster.waves h.cluster.waves))
        → OnOk r (AreHandsOf design clustering (set hands reader h) × IsPassedOn clustering reader net hands (set hands reader h))
    read_taken new cut piece some h same r passes' =
        let here : get_or hands reader d ≡ hand_at hands reader = nth_any hands reader d long_enough in
        let goes : IsSome o = subst (λ (x : Option Piece). IsSome x) (sym some) refl in
        let less : known < known_at_home clustering hands net = subst (λ (g : RoundWorker). known < (wave_at g.cluster.waves net).clock) away_is (new.0 goes).1 in
        let part : piece ≡ cut_of (wave_at (get_or hands home e).cluster.waves net) known = subst (λ (x : Option Piece). IfSome x (λ p. p ≡ cut_of (wave_at (get_or hands home e).cluster.waves net) known)) some cut in
        let Takes : RoundWorker → Type 0 = λ g. IsSome (input_slot g.cluster piece.net) → piece.from ≤ (wave_at g.cluster.waves piece.net).clock → (wave_at g.cluster.waves piece.net).clock < piece.to → OnOk r (IsPassed piece.net piece.to g.cluster.waves h.cluster.waves) in
        pass_taken h known known_is less piece (part ∙ ap (λ (g : RoundWorker). cut_of (wave_at g.cluster.waves net) known) away_is)
        (subst (λ (g : RoundWorker). IsSameButWaves g.cluster h.cluster) here same) r (subst Takes here passes')

    pub read_nothing : (new : IsSome o ↔ (IsDrivenHere (get_or hands home e).cluster net × (known < (wave_at (get_or hands home e).cluster.waves net).clock))) → o ≡ None → IsPassedOn clustering reader net hands hands
    read_nothing new none =
        pass_nothing known known_is o none
        (subst (λ (g : RoundWorker). IsSome o ↔ (IsDrivenHere g.cluster net × (known < (wave_at g.cluster.waves net).clock))) away_is new)

-- the nets that a worker reads, by what its cluster answers
pub inputs_are : (design : Design) (clustering : Clustering) (hands : List RoundWorker) → AreHandsOf design clustering hands → (reader : ℕ) → reader < clustering.clusters → (d : RoundWorker) (ns : List ℕ)
    → ((worker : ℕ) → IsClusterOf design clustering worker (get_or hands reader d).cluster → ns ≡ read_nets design clustering worker) → ns ≡ read_nets design clustering reader
inputs_are design clustering hands are reader inside d ns told =
    told reader (subst (λ (h : RoundWorker). IsClusterOf design clustering reader h.cluster) (sym (nth_any hands reader d (omega (arith, inside, are.count)))) (are.each reader inside))

pub read_of : (design : Design) (clustering : Clustering) (reader place : ℕ) (ns : List ℕ) → ns ≡ read_nets design clustering reader → place < length (read_nets design clustering reader)
    → (get_or ns place 0 < nets_of design) × (has_input design clustering reader (get_or ns place 0) ≡ true)
read_of design clustering reader place ns e h =
    subst (λ (n : ℕ). (n < nets_of design) × (has_input design clustering reader n ≡ true)) (sym (ap (λ ms. get_or ms place 0) e)) (read_at design clustering reader place h)

pub on_both : {A E : Type 0} (r : Result A E) (P Q R : Type 0) → (P → Q → R) → OnOk r P → OnOk r Q → OnOk r R
on_both (Ok x) P Q R f p q = f p q
on_both (Err e) P Q R f p q = tt
