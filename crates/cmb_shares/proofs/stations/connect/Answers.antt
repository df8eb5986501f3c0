use Rattle.std.proofs.Common.{◌∙◌, ◌<◌, ◌++◌, ◌∷◌, [], List, length, get_or, set, ap, arith}
use Rattle.std.proofs.lemmas.List.{length-set}
use Rattle.std.proofs.lemmas.Result.{on_ok_weaker}
use Rattle.cmb_shares.specs.declared.message.Envelope.{Envelope}
use Rattle.cmb_shares.specs.Inner.Stations.{Standing}
use Rattle.cmb_shares.proofs.JoinFacts.{join-more, ordered-set}
use Rattle.cmb_shares.proofs.stations.connect.Goals as goal

pub returns-clause-stations : goal.returns-clause-stations
returns-clause-stations g c =
    let old : List Standing = c.args.stations.now in
    let sender = c.args.sender in
    let reader = c.args.reader in
    let one : Standing = c.add_feed.new.self in
    let other : Standing = c.add_inlet.new.self in
    let d : Standing = c.index-stations-sender.result in
    let e : Standing = c.index-stations-reader.result in
    let fed = c.in_ok-add_feed.ensures in
    let told = c.add_inlet.ensures in
    let within : reader < length (set old sender one) = omega (arith, c.requires.reader, length-set old sender one) in
    on_ok_weaker c.add_inlet.result
    (λ inlets. ordered-set (set old sender one) reader other e within told.number told.clock
    (ordered-set old sender one d c.requires.sender fed.number fed.clock c.requires.stations))
    told.inlets

pub returns-clause-joined : goal.returns-clause-joined
returns-clause-joined g c =
    let old : List Standing = c.args.stations.now in
    let sender = c.args.sender in
    let reader = c.args.reader in
    let one : Standing = c.add_feed.new.self in
    let other : Standing = c.add_inlet.new.self in
    let d : Standing = c.index-stations-sender.result in
    let e : Standing = c.index-stations-reader.result in
    let fed = c.in_ok-add_feed.ensures in
    let told = c.in_ok-outlet.ensures in
    on_ok_weaker c.add_inlet.result
    (λ inlets. join-more (length g.T.ShareRun.run.driven) old sender reader one other d e c.requires.sender c.requires.reader
    (fed.feeds ∙ ap (λ (m : Envelope). (get_or old sender d).feeds ++ m ∷ []) (c.new.ensures ∙ told.outlet)) fed.inlets fed.text
    c.add_inlet.ensures.feeds (inlets ∙ ap (λ (m : Envelope). (get_or (set old sender one) reader e).inlets ++ m ∷ []) told.inlet) c.add_inlet.ensures.text)
    c.add_inlet.ensures.inlets
