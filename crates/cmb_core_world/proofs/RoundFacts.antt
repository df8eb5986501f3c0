-- Rounds of a world, and the same rounds of the clocks beside it.
use Rattle.std.proofs.Common.{◌≡◌, ℕ, zero, suc, ◌+◌, ◌<◌, min, Bool, true, false, cond, ltb, List, [], ◌∷◌, length, Some, None, Result, Ok, Err, OnErr, refl, sym, ◌∙◌, ap, subst, arith}
use Rattle.std.proofs.lemmas.List.{length-map}
use Rattle.cmb_netlist.specs.Netlist.{IsNetlist}
use Rattle.cmb_design_model.specs.Design.{Design}
use Rattle.cmb_design_model.specs.Exact.{nets_of}
use Rattle.cmb_core_protocol.specs.declared.event.Event.{Event}
use Rattle.cmb_core_protocol.specs.declared.event.Event.TheVariants.{Post, Deliver}
use Rattle.cmb_core_cluster.specs.Clustering.{Clustering, IsClustering, has_input}
use Rattle.cmb_core_protocol.specs.Clocks.{Clocks, out_clock, in_clock, start, piece_of}
use Rattle.cmb_core_protocol.specs.Run.{clocks_after, for_each, pass_on, round, rounds, AtLeast, IsQuiet}
use Rattle.cmb_core_world.specs.World.{WorldWaves, in_wave, out_wave, world_after}
use Rattle.cmb_core_world.specs.Play.{IsReached}
use Rattle.cmb_core_world.specs.Rounds.{events_each, step_event, pass_on_events, step_events, net_events, passing_events, round_events, world_rounds, IsKnownTo, IsQuietWorld, IsCompleteWorld}
use Rattle.cmb_core_cluster.proofs.Homes.{input_there}
use Rattle.cmb_core_protocol.proofs.Machine.{clocks_after-append}
use Rattle.cmb_core_protocol.proofs.Progress.{quiet-complete, rounds-at_least}
use Rattle.cmb_core_world.proofs.Runs.{Together, together_after, together_reached}
use Rattle.cmb_core_world.proofs.Worlds.{reach-same}

pub on_err : {A E : Type 0} (r : Result A E) (P Q : Type 0) → (P → Q) → OnErr r P → OnErr r Q
on_err (Ok x) P Q f h = tt
on_err (Err e) P Q f h = f h

-- what a test that stood gives
pub stood : (b : Bool) (k from : ℕ) → cond b (Some k) None ≡ Some from → (b ≡ true) × (k ≡ from)
stood true k from e = (refl, cc)
stood false k from e = absurd (cc)

module _ (design : Design) (netlist : IsNetlist design.netlist) (clustering : Clustering) (lawful : IsClustering (nets_of design) clustering) where
  each_clocks : (turn : ℕ → WorldWaves → List Event) (action : ℕ → Clocks → Clocks) (to : ℕ)
      → ((n : ℕ) → n < to → (world : WorldWaves) (clocks : Clocks) → Together design clustering world clocks → clocks_after design clustering clocks (turn n world) ≡ action n clocks)
      → (from many : ℕ) → from + many ≡ to → (world : WorldWaves) (clocks : Clocks) → Together design clustering world clocks
      → clocks_after design clustering clocks (events_each design clustering turn from many world) ≡ for_each action from many clocks
  each_clocks turn action to each from zero e world clocks t = refl
  each_clocks turn action to each from (suc many) e world clocks t =
      clocks_after-append design clustering clocks (turn from world) (events_each design clustering turn (suc from) many (world_after design clustering world (turn from world)))
      ∙ each_clocks turn action to each (suc from) many (omega arith) (world_after design clustering world (turn from world)) (clocks_after design clustering clocks (turn from world)) (together_after design netlist clustering lawful (turn from world) world clocks t)
      ∙ ap (for_each action (suc from) many) (each from (omega arith) world clocks t)

  pass_on_clocks : (net : ℕ) → net < nets_of design → (cluster : ℕ) → cluster < clustering.clusters → (world : WorldWaves) (clocks : Clocks) → Together design clustering world clocks
      → clocks_after design clustering clocks (pass_on_events design clustering net cluster world) ≡ pass_on design clustering net cluster clocks
  pass_on_clocks net there cluster inside world clocks t = go (has_input design clustering cluster net) refl
    where
      out : (out_wave clustering world net).clock ≡ out_clock clocks net
      out = t.shows.outs net there

      sent : length world.posts ≡ length clocks.posts
      sent = ap length t.shows.posts ∙ length-map clocks.posts (piece_of design)

      go : (b : Bool) → has_input design clustering cluster net ≡ b → clocks_after design clustering clocks (pass_on_events design clustering net cluster world) ≡ pass_on design clustering net cluster clocks
      go false e = rw e refl
      go true e =
          let known : (in_wave world cluster net).clock ≡ in_clock clocks cluster net = t.shows.ins cluster net inside e in
          rw (e, known, out, sent) (same (ltb (in_clock clocks cluster net) (out_clock clocks net)))
        where
          same : (b : Bool) → clocks_after design clustering clocks (cond b (Post net (in_clock clocks cluster net) ∷ Deliver cluster (length clocks.posts) ∷ []) [])
              ≡ cond b (clocks_after design clustering clocks (Post net (in_clock clocks cluster net) ∷ Deliver cluster (length clocks.posts) ∷ [])) clocks
          same true = refl
          same false = refl

  pub round_clocks : (world : WorldWaves) (clocks : Clocks) → Together design clustering world clocks → clocks_after design clustering clocks (round_events design clustering world) ≡ round design clustering clocks
  round_clocks world clocks t =
      let stepped = each_clocks step_event _ (nets_of design) (λ n h w k s. refl) 0 (nets_of design) (omega arith) world clocks t in
      let passed = each_clocks (net_events design clustering) (λ net now. for_each (λ cluster later. pass_on design clustering net cluster later) 0 clustering.clusters now) (nets_of design)
      (λ net there w k s. each_clocks (pass_on_events design clustering net) (λ cluster later. pass_on design clustering net cluster later) clustering.clusters (λ cluster inside v j u. pass_on_clocks net there cluster inside v j u) 0 clustering.clusters (omega arith) w k s)
      0 (nets_of design) (omega arith) (world_after design clustering world (step_events design clustering world)) (clocks_after design clustering clocks (step_events design clustering world))
      (together_after design netlist clustering lawful (step_events design clustering world) world clocks t)
      in
      clocks_after-append design clustering clocks (step_events design clustering world) (passing_events design clustering (world_after design clustering world (step_events design clustering world)))
      ∙ passed ∙ ap (for_each (λ net now. for_each (λ cluster later. pass_on design clustering net cluster later) 0 clustering.clusters now) 0 (nets_of design)) stepped

  -- a quiet world that came about from newly opened clusters is complete
  pub quiet_reached : (world : WorldWaves) (past : List Event) → IsReached design clustering world past → IsQuietWorld design clustering world → IsCompleteWorld design clustering world
  quiet_reached world past reached quiet net there =
      let clocks : Clocks = clocks_after design clustering (start design clustering) past in
      let t : Together design clustering world clocks = together_reached design netlist clustering lawful world past reached in
      let is : IsQuiet design clustering clocks = record {
        no_step = λ n h. omega (arith, reach-same design netlist clustering lawful world t.has clocks t.sound t.shows n h, quiet.no_step n h, t.shows.outs n h);
        passed_on = λ cluster n inside reads.
            sym (t.shows.ins cluster n inside reads) ∙ quiet.passed_on cluster n inside reads ∙ t.shows.outs n (input_there design clustering cluster n netlist reads);
      } in
      t.shows.outs net there ∙ quiet-complete design netlist clustering lawful clocks (past, refl) is net there

  together_rounds : (world : WorldWaves) (clocks : Clocks) → Together design clustering world clocks → (many : ℕ) → Together design clustering (world_rounds design clustering many world) (rounds design clustering many clocks)
  together_rounds world clocks t zero = t
  together_rounds world clocks t (suc many) =
      let before : WorldWaves = world_rounds design clustering many world in
      let known : Clocks = rounds design clustering many clocks in
      let so_far : Together design clustering before known = together_rounds world clocks t many in
      let P : Clocks → Type 0 = λ k. Together design clustering (world_after design clustering before (round_events design clustering before)) k in
      subst P (round_clocks before known so_far) (together_after design netlist clustering lawful (round_events design clustering before) before known so_far)

  -- each round brings every clock on by a tick at least
  pub rounds_known : (world : WorldWaves) (past : List Event) → IsReached design clustering world past → (many : ℕ) → IsKnownTo design clustering (min design.horizon many) (world_rounds design clustering many world)
  rounds_known world past reached many =
      let clocks : Clocks = clocks_after design clustering (start design clustering) past in
      let start' : Together design clustering world clocks = together_reached design netlist clustering lawful world past reached in
      let t : Together design clustering (world_rounds design clustering many world) (rounds design clustering many clocks) = together_rounds world clocks start' many in
      let least : AtLeast design clustering (min design.horizon many) (rounds design clustering many clocks) = rounds-at_least design netlist clustering lawful clocks start'.sound many in
      record {
        outs = λ net there. omega (arith, least.outs net there, t.shows.outs net there);
        ins = λ cluster net inside reads. omega (arith, least.ins cluster net inside (input_there design clustering cluster net netlist reads) reads, t.shows.ins cluster net inside reads);
      }
