use Rattle.std.proofs.Common.{◌≡◌, ◌∙◌, ◌⊎◌, inl, inr, ℕ, ◌<◌, true, false, Bool, List, [], length, map, get_or, ap, refl, subst, sym, arith}
use Rattle.std.specs.Prelude.{Contains}
use Rattle.std.proofs.lemmas.Bool.{cases_eq}
use Rattle.std.proofs.lemmas.List.{length-map}
use Rattle.std.proofs.lemmas.Option.{slice_get_read}
use Rattle.cmb_design_model.specs.Design.{Design}
use Rattle.cmb_design_model.specs.Exact.{nets_of}
use Rattle.cmb_engine.specs.Shares.{IsGiven}
use Rattle.cmb_graph_partition.specs.declared.shares.Share.{Share}
use Rattle.cmb_shares.specs.Inner.Runs.{driven_by}
use Rattle.cmb_shares.specs.Inner.Stations.{Covers, Standing}
use Rattle.cmb_shares.proofs.HeardFacts.{set_within}
use Rattle.cmb_shares.proofs.JoinFacts.{are-members}
use Rattle.cmb_shares.proofs.OpeningFacts.{marks-at}
use Rattle.cmb_shares.proofs.stations.connect_all.Goals as goal

pub feeders_of-requires-clause-driven : goal.feeders_of-requires-clause-driven
feeders_of-requires-clause-driven g c =
    let run = g.T.ShareRun.run in
    let shares = c.args.partition.now.shares.items in
    let s : Share = c.index.result.now in
    let reader = c.loop-reader.reader in
    let count : length (map (λ (x : Share). x.driven.items) shares) ≡ length run.driven = ap length c.requires.driven in
    let long = length-map shares (λ (x : Share). x.driven.items) in
    let inside : reader < length shares = omega (arith, c.loop-reader-test.true, c.requires.count, count, long) in
    let at = slice_get_read shares (length shares) reader s refl inside c.index.ensures in
    let same : c.deref-in-loop-reader.result.now ≡ driven_by run reader =
    c.deref-in-loop-reader.ensures.value ∙ sym (marks-at shares reader s at) ∙ ap (λ (l : List (List Bool)). get_or l reader []) c.requires.driven in
    ap length same ∙ c.requires.lawful.marks reader (omega (arith, inside, count, long)) ∙ ap nets_of (sym c.requires.design)

pub loop-reader-preserved : goal.loop-reader-preserved
loop-reader-preserved g c =
    let run = g.T.ShareRun.run in
    let was = c.loop-reader.invariant in
    let went = c.in_ok-connect_reader.ensures in
    let reader = c.loop-reader.reader in
    let next : List Standing = c.connect_reader.new.stations in
    let shares = c.args.partition.now.shares.items in
    let s : Share = c.index.result.now in
    let count : length (map (λ (x : Share). x.driven.items) shares) ≡ length run.driven = ap length c.requires.driven in
    let long = length-map shares (λ (x : Share). x.driven.items) in
    let inside : reader < length shares = omega (arith, c.loop-reader-test.true, c.requires.count, count, long) in
    let at = slice_get_read shares (length shares) reader s refl inside c.index.ensures in
    let same : c.deref-in-loop-reader.result.now ≡ driven_by run reader =
    c.deref-in-loop-reader.ensures.value ∙ sym (marks-at shares reader s at) ∙ ap (λ (l : List (List Bool)). get_or l reader []) c.requires.driven in
    record {
      len = went.len ∙ was.len;
      stations = went.stations;
      joined = went.joined was.joined;
      covered = λ k d below within.
          let by : ((k ≡ reader) ⊎ (k ≡ reader → ⊥)) → Covers run k (get_or next k d).senders =
          elim [
            | inl e ↦ λ net given.
                let owner = get_or run.owners net 0 in
                let asked : IsGiven c.args.design.now c.deref-in-loop-reader.result.now net =
                subst (λ (x : Design). IsGiven x c.deref-in-loop-reader.result.now net) (sym c.requires.design)
                (subst (λ (l : List Bool). IsGiven run.design l net) (sym same) (subst (λ n. IsGiven run.design (driven_by run n) net) e given)) in
                let marked : get_or c.in_ok-feeders.feeders.items owner false ≡ true =
                subst (λ (l : List ℕ). get_or c.in_ok-feeders.feeders.items (get_or l net 0) false ≡ true) (c.deref.ensures.value ∙ c.requires.owners) (c.in_ok-feeders.ensures.marked net asked) in
                let here : get_or c.deref-in-loop-reader-2.result.now owner false ≡ true =
                subst (λ (l : List Bool). get_or l owner false ≡ true) (sym c.deref-in-loop-reader-2.ensures.value) marked in
                subst (λ n. Contains (get_or next n d).senders owner) (sym e) (went.heard owner d (set_within c.deref-in-loop-reader-2.result.now owner here) here)
            | inr n ↦
                let there : k < length c.loop-reader.stations = omega (arith, within, went.len) in
                subst (λ (l : List ℕ). Covers run k l) (sym (went.others k d there n)) (was.covered k d (omega (arith, below, n)) there)
          ] in
          by (cases_eq k reader);
    }

pub returns-clause-members : goal.returns-clause-members
returns-clause-members g c =
    let was = c.loop-reader.invariant in
    let lawful = c.requires.lawful in
    are-members g.T.ShareRun.run c.loop-reader.stations lawful.each (omega (arith, c.horizon-horizon.ensures.value, c.horizon-horizon.ensures, lawful.horizon, ap (λ (x : Design). x.horizon) c.requires.design)) (was.len ∙ c.requires.count) was.joined
    was.stations
