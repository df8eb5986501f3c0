-- A quiet state is complete, and each round brings the clocks on.
use Rattle.std.proofs.Common.{◌≡◌, ℕ, zero, suc, ◌+◌, ◌<◌, ◌≤◌, min, true, false, ◌&&◌, List, [], ◌∷◌, ◌++◌, ◌⊎◌, inl, inr, length, get_or, set, Some, refl, ap, sym, ◌∙◌, subst, arith, leb, ltb, eqb, get_or-set_same}
use Rattle.std.specs.Prelude.{slice_get}
use Rattle.std.proofs.lemmas.Bool.{lt-ltb, le-ltb, lt-leb, ltb-true, ltb-false, eqb-false, ne_eqb, cases_lt, cond_both}
use Rattle.cmb_netlist.specs.Netlist.{driver_of, IsNetlist}
use Rattle.cmb_design_model.specs.Design.{Design}
use Rattle.cmb_design_model.specs.Exact.{nets_of}
use Rattle.cmb_core_protocol.specs.declared.event.Event.TheVariants.{Step, Post, Deliver}
use Rattle.cmb_core_protocol.specs.declared.event.Reply.TheVariants.{Posted, Delivered}
use Rattle.cmb_core_cluster.specs.Clustering.{Clustering, IsClustering, cluster_of, has_input}
use Rattle.cmb_core_protocol.specs.Clocks.{Span, Clocks, Outcome, replied, out_clock, in_clock, seen_clock, machine_reach, with_in, play}
use Rattle.cmb_core_protocol.specs.Run.{clocks_after, IsReachable, IsComplete, IsQuiet, for_each, pass_on, step_each, pass_on_each, round, rounds, NotBelow, AtLeast}
use Rattle.cmb_core_protocol.proofs.Machine.{IsSound, NotBelow-same, NotBelow-trans, Goes, play-goes, clocks_after-goes, reachable-sound}
use Rattle.cmb_core_cluster.proofs.Everywhere.{all_weaker}
use Rattle.cmb_core_cluster.proofs.NetReads.{IsPin, cluster-there, has_input-from, pins-are}
use Rattle.cmb_core_cluster.proofs.ReachFacts.{driver_reach-at_least}

-- ---- lookahead

AtLeast-after : (design : Design) (clustering : Clustering) (tick : ℕ) (before after : Clocks) → NotBelow before after → AtLeast design clustering tick before → AtLeast design clustering tick after
AtLeast-after design clustering tick before after rises a = record {
  outs = λ net there. omega (arith, rises.outs net, a.outs net there);
  ins = λ cluster net c there reads. omega (arith, rises.ins cluster net, a.ins cluster net c there reads);
}

module _ (design : Design) (netlist : IsNetlist design.netlist) (clustering : Clustering) (assigned : IsClustering (nets_of design) clustering) where
  seen-at_least : (clocks : Clocks) (tick reader net : ℕ) → AtLeast design clustering tick clocks → reader < nets_of design → IsPin design reader net → tick ≤ seen_clock clustering clocks (cluster_of clustering reader) net
  seen-at_least clocks tick reader net at there pin =
      cond_both (eqb (cluster_of clustering net) (cluster_of clustering reader)) (out_clock clocks net) (in_clock clocks (cluster_of clustering reader) net) (λ clock. tick ≤ clock)
      (λ own. at.outs net pin.0)
      (λ other. at.ins (cluster_of clustering reader) net (cluster-there design clustering assigned reader there) pin.0 (has_input-from design clustering reader net there pin.1 (eqb-false _ _ other)))

  pub reach-at_least : (clocks : Clocks) (tick net : ℕ) → AtLeast design clustering tick clocks → net < nets_of design → suc tick ≤ design.horizon → suc tick ≤ machine_reach design clustering clocks net
  unfolding machine_reach
  reach-at_least clocks tick net at there within =
      driver_reach-at_least design (seen_clock clustering clocks (cluster_of clustering net)) net tick (driver_of design.netlist net)
      (all_weaker (IsPin design net) (λ m. tick ≤ seen_clock clustering clocks (cluster_of clustering net) m) (λ m pin. seen-at_least clocks tick net m at there pin) _ (pins-are design netlist net))
      within

  -- ---- quiet is complete

  quiet-at_least : (clocks : Clocks) → IsQuiet design clustering clocks → (tick : ℕ) → tick ≤ design.horizon → (net : ℕ) → net < nets_of design → tick ≤ out_clock clocks net
  quiet-at_least clocks quiet zero within net there = omega arith
  quiet-at_least clocks quiet (suc tick) within net there =
      let rest : (m : ℕ) → m < nets_of design → tick ≤ out_clock clocks m = quiet-at_least clocks quiet tick (omega arith) in
      let at : AtLeast design clustering tick clocks = record {
        outs = rest;
        ins = λ cluster m c here reads. omega (arith, rest m here, quiet.passed_on cluster m c reads);
      } in
      omega (arith, reach-at_least clocks tick net at there within, quiet.no_step net there)

  pub quiet-complete : (clocks : Clocks) → IsReachable design clustering clocks → IsQuiet design clustering clocks → IsComplete design clocks
  quiet-complete clocks reachable quiet net there =
      omega (arith, quiet-at_least clocks quiet design.horizon (omega arith) net there, (reachable-sound design clustering clocks reachable).outs_within net)

-- ---- loops

-- what each turn brings on by one, all turns bring on to the end
for_each-brings : (action : ℕ → Clocks → Clocks) (P : ℕ → Clocks → Type 0) (to from many : ℕ) (clocks : Clocks) → to ≡ from + many → ((n : ℕ) (now : Clocks) → n < to → P n now → P (suc n) (action n now)) → P from clocks → P to (for_each action from many clocks)
for_each-brings action P to from zero clocks e turn p = let same : from ≡ to = omega arith in subst (λ n. P n clocks) same p
for_each-brings action P to from (suc many) clocks e turn p =
    for_each-brings action P to (suc from) many (action from clocks) (omega arith) turn (turn from clocks (omega arith) p)

-- ---- a step and a passing on

get_or_after : (xs : List Span) (x : Span) → slice_get (xs ++ x ∷ []) (length xs) ≡ Some x
get_or_after [] x = refl
get_or_after (y ∷ ys) x = get_or_after ys x

-- a post of a part that isn't empty, and a delivery of what goes on from the input clock
pub play-post : (design : Design) (clustering : Clustering) (clocks : Clocks) (net from : ℕ) → net < nets_of design → from < out_clock clocks net → play design clustering clocks (Post net from) ≡ replied (record clocks { posts = clocks.posts ++ record { net = net; from = from; to = out_clock clocks net } ∷ [] }) (Posted (Some (length clocks.posts)))
play-post design clustering clocks net from there below =
    let yes : ltb net (nets_of design) ≡ true = lt-ltb net (nets_of design) there in
    let at_most : ltb (out_clock clocks net) from ≡ false = le-ltb (out_clock clocks net) from (omega arith) in
    let differ : eqb from (out_clock clocks net) ≡ false = ne_eqb from (out_clock clocks net) (λ same. omega arith) in
    rw (yes, at_most, differ)

pub play-deliver : (design : Design) (clustering : Clustering) (clocks : Clocks) (cluster number : ℕ) (span : Span) → cluster < clustering.clusters → slice_get clocks.posts number ≡ Some span → has_input design clustering cluster span.net ≡ true → span.from ≤ in_clock clocks cluster span.net → in_clock clocks cluster span.net < span.to → play design clustering clocks (Deliver cluster number) ≡ replied (with_in clocks cluster span.net span.to) (Delivered span.to)
play-deliver design clustering clocks cluster number span there is reads meets new =
    let yes : ltb cluster clustering.clusters ≡ true = lt-ltb cluster clustering.clusters there in
    let no_gap : ltb (in_clock clocks cluster span.net) span.from ≡ false = le-ltb (in_clock clocks cluster span.net) span.from meets in
    let not_old : leb span.to (in_clock clocks cluster span.net) ≡ false = lt-leb span.to (in_clock clocks cluster span.net) new in
    rw (yes, is) (rw (reads, no_gap, not_old))

module _ (design : Design) (clustering : Clustering) (clocks : Clocks) (sound : IsSound design clustering clocks) where
  abbrev reaches : ℕ → ℕ → Outcome → Type 0
  reaches net tick outcome = tick ≤ out_clock outcome.clocks net

  step-reaches : (net : ℕ) → net < nets_of design → machine_reach design clustering clocks net ≤ out_clock (play design clustering clocks (Step net)).clocks net
  step-reaches net there =
      let yes : ltb net (nets_of design) ≡ true = lt-ltb net (nets_of design) there in
      let inside : net < length clocks.outs = omega (arith, sound.nets) in
      rw yes (cond_both (ltb (out_clock clocks net) (machine_reach design clustering clocks net)) _ _ (reaches net (machine_reach design clustering clocks net))
      (λ above. rw (get_or-set_same clocks.outs net (machine_reach design clustering clocks net) 0 inside) (omega arith))
      (λ below. ltb-false (out_clock clocks net) (machine_reach design clustering clocks net) below))

  pub in-set : (cluster net tick : ℕ) → net < nets_of design → cluster < clustering.clusters → in_clock (with_in clocks cluster net tick) cluster net ≡ tick
  in-set cluster net tick there c =
      let row : cluster < length clocks.ins = omega (arith, sound.clusters) in
      let column : net < length (get_or clocks.ins cluster []) = omega (arith, sound.rows cluster c) in
      ap (λ r. get_or r net 0) (get_or-set_same clocks.ins cluster (set (get_or clocks.ins cluster []) net tick) [] row) ∙ get_or-set_same (get_or clocks.ins cluster []) net tick 0 column

  -- the two events of a passing on
  abbrev pub passed : ℕ → ℕ → Clocks
  passed net cluster = clocks_after design clustering clocks (Post net (in_clock clocks cluster net) ∷ Deliver cluster (length clocks.posts) ∷ [])

  pub passing : (net cluster : ℕ) → net < nets_of design → cluster < clustering.clusters → has_input design clustering cluster net ≡ true → in_clock clocks cluster net < out_clock clocks net → passed net cluster ≡ with_in (record clocks { posts = clocks.posts ++ record { net = net; from = in_clock clocks cluster net; to = out_clock clocks net } ∷ [] }) cluster net (out_clock clocks net)
  passing net cluster there c reads below =
      let span : Span = record { net = net; from = in_clock clocks cluster net; to = out_clock clocks net } in
      let now : Clocks = record clocks { posts = clocks.posts ++ span ∷ [] } in
      let first : (play design clustering clocks (Post net (in_clock clocks cluster net))).clocks ≡ now = ap (λ (o : Outcome). o.clocks) (play-post design clustering clocks net (in_clock clocks cluster net) there below) in
      let second : (play design clustering now (Deliver cluster (length clocks.posts))).clocks ≡ with_in now cluster net (out_clock clocks net) = ap (λ (o : Outcome). o.clocks) (play-deliver design clustering now cluster (length clocks.posts) span c (get_or_after clocks.posts span) reads (omega arith) below) in
      ap (λ (s : Clocks). (play design clustering s (Deliver cluster (length clocks.posts))).clocks) first ∙ second

  passed-in : (net cluster : ℕ) → net < nets_of design → cluster < clustering.clusters → has_input design clustering cluster net ≡ true → in_clock clocks cluster net < out_clock clocks net → in_clock (passed net cluster) cluster net ≡ out_clock clocks net
  passed-in net cluster there c reads below = ap (λ (s : Clocks). in_clock s cluster net) (passing net cluster there c reads below) ∙ in-set cluster net (out_clock clocks net) there c

  pub pass_on-goes : (net cluster : ℕ) → Goes design clustering clocks (pass_on design clustering net cluster clocks)
  pass_on-goes net cluster =
      cond_both (has_input design clustering cluster net && ltb (in_clock clocks cluster net) (out_clock clocks net)) (passed net cluster) clocks (Goes design clustering clocks)
      (λ yes. clocks_after-goes design clustering clocks (Post net (in_clock clocks cluster net) ∷ Deliver cluster (length clocks.posts) ∷ []) sound)
      (λ no. (sound, NotBelow-same clocks))

  pub pass_on-in : (net cluster : ℕ) → net < nets_of design → cluster < clustering.clusters → has_input design clustering cluster net ≡ true → out_clock clocks net ≤ in_clock (pass_on design clustering net cluster clocks) cluster net
  pass_on-in net cluster there c reads =
      rw reads (cond_both (ltb (in_clock clocks cluster net) (out_clock clocks net)) (passed net cluster) clocks (λ after. out_clock clocks net ≤ in_clock after cluster net)
      (λ below. omega (arith, passed-in net cluster there c reads (ltb-true _ _ below)))
      (λ above. ltb-false _ _ above))

-- ---- a round

module _ (design : Design) (clustering : Clustering) where
  -- the nets below n have been stepped
  pub record SteppedBelow (least : ℕ) (before : Clocks) (n : ℕ) (now : Clocks) : Type 0 where
    pub sound : IsSound design clustering now
    pub rises : NotBelow before now
    pub done : (net : ℕ) → net < n → net < nets_of design → least ≤ out_clock now net

  -- what net has is passed on to the clusters below c
  pub record PassedTo (net : ℕ) (before : Clocks) (c : ℕ) (now : Clocks) : Type 0 where
    pub sound : IsSound design clustering now
    pub rises : NotBelow before now
    pub done : (cluster : ℕ) → cluster < c → cluster < clustering.clusters → has_input design clustering cluster net ≡ true → out_clock before net ≤ in_clock now cluster net

  -- what the nets below n have is passed on
  pub record PassedBelow (before : Clocks) (n : ℕ) (now : Clocks) : Type 0 where
    pub sound : IsSound design clustering now
    pub rises : NotBelow before now
    pub done : (cluster net : ℕ) → net < n → net < nets_of design → cluster < clustering.clusters → has_input design clustering cluster net ≡ true → out_clock before net ≤ in_clock now cluster net

  below_suc : (n net : ℕ) → net < suc n → (net ≡ n) ⊎ (net < n)
  below_suc n net h = go (cases_lt net n)
    where
      go : (net < n) ⊎ (n ≤ net) → (net ≡ n) ⊎ (net < n)
      go (inl l) = inr l
      go (inr l) = inl (omega arith)

  step-turn : (least : ℕ) (before : Clocks) → ((net : ℕ) (now : Clocks) → net < nets_of design → IsSound design clustering now → NotBelow before now → least ≤ machine_reach design clustering now net) → (n : ℕ) (now : Clocks) → n < nets_of design → SteppedBelow least before n now → SteppedBelow least before (suc n) (play design clustering now (Step n)).clocks
  step-turn least before reaches' n now there p = record {
    sound = goes.0;
    rises = NotBelow-trans before now _ p.rises goes.1;
    done = λ net h here. go net here (below_suc n net h);
  }
    where
      goes : Goes design clustering now (play design clustering now (Step n)).clocks
      goes = play-goes design clustering now p.sound (Step n)

      go : (net : ℕ) → net < nets_of design → (net ≡ n) ⊎ (net < n) → least ≤ out_clock (play design clustering now (Step n)).clocks net
      go net here (inl same) = subst (λ m. least ≤ out_clock (play design clustering now (Step n)).clocks m) (sym same) (omega (arith, reaches' n now there p.sound p.rises, step-reaches design clustering now p.sound n there))
      go net here (inr less) = omega (arith, p.done net less here, goes.1.outs net)

  pass-turn : (net : ℕ) (before : Clocks) → net < nets_of design → (c : ℕ) (now : Clocks) → c < clustering.clusters → PassedTo net before c now → PassedTo net before (suc c) (pass_on design clustering net c now)
  pass-turn net before there c now here p = record {
    sound = goes.0;
    rises = NotBelow-trans before now _ p.rises goes.1;
    done = λ cluster h inside reads. go cluster inside reads (below_suc c cluster h);
  }
    where
      goes : Goes design clustering now (pass_on design clustering net c now)
      goes = pass_on-goes design clustering now p.sound net c

      go : (cluster : ℕ) → cluster < clustering.clusters → has_input design clustering cluster net ≡ true → (cluster ≡ c) ⊎ (cluster < c) → out_clock before net ≤ in_clock (pass_on design clustering net c now) cluster net
      go cluster inside reads (inl same) =
          let reads' : has_input design clustering c net ≡ true = subst (λ k. has_input design clustering k net ≡ true) same reads in
          subst (λ k. out_clock before net ≤ in_clock (pass_on design clustering net c now) k net) (sym same) (omega (arith, p.rises.outs net, pass_on-in design clustering now p.sound net c there here reads'))
      go cluster inside reads (inr less) = omega (arith, p.done cluster less inside reads, goes.1.ins cluster net)

  passes-turn : (before : Clocks) (n : ℕ) (now : Clocks) → n < nets_of design → PassedBelow before n now → PassedBelow before (suc n) (for_each (λ cluster later. pass_on design clustering n cluster later) 0 clustering.clusters now)
  passes-turn before n now there p = record {
    sound = all.sound;
    rises = NotBelow-trans before now _ p.rises all.rises;
    done = λ cluster net h here inside reads. go cluster net here inside reads (below_suc n net h);
  }
    where
      later : Clocks
      later = for_each (λ cluster later. pass_on design clustering n cluster later) 0 clustering.clusters now

      all : PassedTo n now clustering.clusters later
      all = for_each-brings (λ cluster later. pass_on design clustering n cluster later) (PassedTo n now) clustering.clusters 0 clustering.clusters now (omega arith) (pass-turn n now there) (record { sound = p.sound; rises = NotBelow-same now; done = λ cluster none. absurd (omega arith) })

      go : (cluster net : ℕ) → net < nets_of design → cluster < clustering.clusters → has_input design clustering cluster net ≡ true → (net ≡ n) ⊎ (net < n) → out_clock before net ≤ in_clock later cluster net
      go cluster net here inside reads (inl same) =
          let reads' : has_input design clustering cluster n ≡ true = subst (λ m. has_input design clustering cluster m ≡ true) same reads in
          subst (λ m. out_clock before m ≤ in_clock later cluster m) (sym same) (omega (arith, p.rises.outs n, all.done cluster inside inside reads'))
      go cluster net here inside reads (inr less) = omega (arith, p.done cluster net less here inside reads, all.rises.ins cluster net)

  -- all steps of a round
  steps-done : (least : ℕ) (before : Clocks) → IsSound design clustering before → ((net : ℕ) (now : Clocks) → net < nets_of design → IsSound design clustering now → NotBelow before now → least ≤ machine_reach design clustering now net) → SteppedBelow least before (nets_of design) (step_each design clustering before)
  steps-done least before sound reaches' =
      for_each-brings _ (SteppedBelow least before) (nets_of design) 0 (nets_of design) before (omega arith) (step-turn least before reaches') (record { sound = sound; rises = NotBelow-same before; done = λ net none. absurd (omega arith) })

  passes-done : (before : Clocks) → IsSound design clustering before → PassedBelow before (nets_of design) (pass_on_each design clustering before)
  passes-done before sound =
      for_each-brings _ (PassedBelow before) (nets_of design) 0 (nets_of design) before (omega arith) (passes-turn before) (record { sound = sound; rises = NotBelow-same before; done = λ cluster net none. absurd (omega arith) })

  -- a round keeps what always holds, and no clock falls
  pub round-goes : (clocks : Clocks) → IsSound design clustering clocks → Goes design clustering clocks (round design clustering clocks)
  round-goes clocks sound =
      let stepped' : SteppedBelow 0 clocks (nets_of design) (step_each design clustering clocks) = steps-done 0 clocks sound (λ net now there s r. omega arith) in
      let passed' : PassedBelow (step_each design clustering clocks) (nets_of design) (round design clustering clocks) = passes-done (step_each design clustering clocks) stepped'.sound in
      (passed'.sound, NotBelow-trans _ _ _ stepped'.rises passed'.rises)

-- a round brings all clocks on by a tick
pub round-at_least : (design : Design) → IsNetlist design.netlist → (clustering : Clustering) → IsClustering (nets_of design) clustering → (clocks : Clocks) (tick : ℕ) → IsSound design clustering clocks → AtLeast design clustering tick clocks → suc tick ≤ design.horizon → AtLeast design clustering (suc tick) (round design clustering clocks)
round-at_least design netlist clustering assigned clocks tick sound at within =
    let stepped' : SteppedBelow design clustering (suc tick) clocks (nets_of design) (step_each design clustering clocks) = steps-done design clustering (suc tick) clocks sound (λ net now there s r. reach-at_least design netlist clustering assigned now tick net (AtLeast-after design clustering tick clocks now r at) there within) in
    let passed' : PassedBelow design clustering (step_each design clustering clocks) (nets_of design) (round design clustering clocks) = passes-done design clustering (step_each design clustering clocks) stepped'.sound in
    record {
      outs = λ net there. omega (arith, stepped'.done net there there, passed'.rises.outs net);
      ins = λ cluster net c there reads. omega (arith, stepped'.done net there there, passed'.done cluster net there there c reads);
    }

pub rounds-goes : (design : Design) (clustering : Clustering) (clocks : Clocks) → IsSound design clustering clocks → (many : ℕ) → Goes design clustering clocks (rounds design clustering many clocks)
rounds-goes design clustering clocks sound zero = (sound, NotBelow-same clocks)
rounds-goes design clustering clocks sound (suc many) =
    let before : Goes design clustering clocks (rounds design clustering many clocks) = rounds-goes design clustering clocks sound many in
    let last : Goes design clustering (rounds design clustering many clocks) (rounds design clustering (suc many) clocks) = round-goes design clustering (rounds design clustering many clocks) before.0 in
    (last.0, NotBelow-trans _ _ _ before.1 last.1)

-- so many rounds bring each clock to at least that tick, or the horizon
pub rounds-at_least : (design : Design) → IsNetlist design.netlist → (clustering : Clustering) → IsClustering (nets_of design) clustering → (clocks : Clocks) → IsSound design clustering clocks → (many : ℕ) → AtLeast design clustering (min design.horizon many) (rounds design clustering many clocks)
rounds-at_least design netlist clustering assigned clocks sound zero =
    record { outs = λ net there. omega arith; ins = λ cluster net c there reads. omega arith }
rounds-at_least design netlist clustering assigned clocks sound (suc many) = go (cases_lt many design.horizon) (rounds-at_least design netlist clustering assigned clocks sound many)
  where
    now : Clocks
    now = rounds design clustering many clocks

    before : IsSound design clustering now
    before = (rounds-goes design clustering clocks sound many).0

    go : (many < design.horizon) ⊎ (design.horizon ≤ many) → AtLeast design clustering (min design.horizon many) now → AtLeast design clustering (min design.horizon (suc many)) (round design clustering now)
    go (inl less) at =
        let here : min design.horizon many ≡ many = omega arith in
        let next : min design.horizon (suc many) ≡ suc many = omega arith in
        rw next (round-at_least design netlist clustering assigned now many before (rw here at at) less)
    go (inr past) at =
        let same : min design.horizon (suc many) ≡ min design.horizon many = omega arith in
        rw same (AtLeast-after design clustering (min design.horizon many) now _ (round-goes design clustering now before).1 at)

-- ---- rounds of what can come about
