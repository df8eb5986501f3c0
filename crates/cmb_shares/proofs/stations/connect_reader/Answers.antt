use Rattle.std.proofs.Common.{◌≡◌, ◌∙◌, ◌⊎◌, inl, inr, true, false, get_or, subst, sym, arith}
use Rattle.std.specs.Prelude.{Contains}
use Rattle.std.proofs.lemmas.Bool.{cases_eq}
use Rattle.cmb_shares.proofs.stations.connect_reader.Goals as goal

pub loop-sender-preserved : goal.loop-sender-preserved
loop-sender-preserved g c =
    let was = c.loop-sender.invariant in
    let went = c.in_ok-connect_feeder.ensures in
    let sender = c.loop-sender.sender in
    let feeders = c.args.feeders.now in
    record {
      len = went.len ∙ was.len;
      stations = went.stations;
      joined = λ before. went.joined (was.joined before);
      others = λ k d within n. went.others k d (omega (arith, within, was.len)) n ∙ was.others k d within n;
      heard = λ s d below marked.
          let by : ((s ≡ sender) ⊎ (s ≡ sender → ⊥)) → Contains (get_or c.connect_feeder.new.stations c.args.reader d).senders s =
          elim [
            | inl e ↦
                subst (λ n. Contains (get_or c.connect_feeder.new.stations c.args.reader d).senders n) (sym e)
                (went.heard (subst (λ n. get_or feeders n false ≡ true) e marked) d)
            | inr n ↦ went.kept s d (was.heard s d (omega (arith, below, n)) marked)
          ] in
          by (cases_eq s sender);
    }
