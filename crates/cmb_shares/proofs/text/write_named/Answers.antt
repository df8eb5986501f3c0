use Rattle.std.proofs.Common.{◌≡◌, ◌++◌, List, length, take, drop, get_or, subst, sym, arith}
use Rattle.std.specs.Prelude.{All}
use Rattle.std.proofs.lemmas.List.{take_at}
use Rattle.cmb_shares.specs.Inner.Stations.{Covers, Standing}
use Rattle.cmb_shares.proofs.text.write_named.Goals as goal

pub berths_of-requires : goal.berths_of-requires
berths_of-requires g c =
    let run = g.T.ShareRun.run in
    let was = c.in-Ok.stations in
    let next : List Standing = c.connect_all.new.stations in
    let went = c.in-Ok-connect_all.ensures in
    let here : take was.len (next ++ drop (length next) was.items) ≡ next = take_at next (drop (length next) was.items) was.len (omega (arith, went.len, c.deref_mut.ensures.len)) in
    record {
      covers =
          subst (λ (l : List Standing). All (λ (s : Standing). Covers run s.number s.senders) l) (sym here)
          (λ k d inside. subst (λ n. Covers run n (get_or next k d).senders) (sym (went.stations k d inside).0) (went.covered k d (omega (arith, inside, went.len)) inside));
    }
