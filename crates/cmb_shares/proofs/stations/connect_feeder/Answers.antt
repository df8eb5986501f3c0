use Rattle.std.proofs.Common.{ℕ, List, get_or, subst, sym}
use Rattle.std.specs.Prelude.{Contains}
use Rattle.std.proofs.lemmas.Result.{on_ok_weaker}
use Rattle.std.proofs.lemmas.List.Elements.{Contains-push}
use Rattle.cmb_shares.proofs.stations.connect_feeder.Goals as goal

pub returns-clause-heard : goal.returns-clause-heard
returns-clause-heard g c =
    on_ok_weaker c.connect.result
    (λ heard _ d. subst (λ (l : List ℕ). Contains l c.args.sender) (sym (heard d)) (Contains-push (get_or c.args.stations.now c.args.reader d).senders c.args.sender))
    c.connect.ensures.heard
