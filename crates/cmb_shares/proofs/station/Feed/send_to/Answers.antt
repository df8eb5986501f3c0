use Rattle.std.proofs.Common.{◌≡◌, ◌∙◌, ◌<◌, Bool, List, ℕ, length, ap, subst, sym}
use Rattle.std.specs.Prelude.{filter}
use Rattle.cmb_shares.specs.declared.message.Envelope.{Envelope}
use Rattle.cmb_shares.specs.Inner.Messages.{AreTold, IsMessage}
use Rattle.cmb_shares.specs.Inner.Runs.{driven_by}
use Rattle.cmb_shares.specs.Inner.Simulators.{is_fed}
use Rattle.cmb_shares.proofs.PlaceFacts.{bool_cases}
use Rattle.cmb_shares.proofs.ToldFacts.{on_ok_gives}
use Rattle.cmb_shares.proofs.station.Feed.send_to.Goals as goal

pub new-requires : goal.new-requires
new-requires g c =
    let run = g.T.ShareRun.run in
    let s = c.args.simulator.now in
    let was = c.self.invariant in
    let reader = c.self.inside.reader in
    let below : reader < length run.driven = subst (λ n. n < length run.driven) was.0 was.1.0 in
    let driven : c.self.inside.driven.now ≡ driven_by run reader = was.1.1 ∙ ap (driven_by run) was.0 in
    let fed : c.feed_of.new.fed.items ≡ filter (is_fed s.owners.now s.number c.self.inside.driven.now) c.args.told.now =
    on_ok_gives c.feed_of.result (sym c.is_err.ensures.value ∙ c.if-is_err.false) c.feed_of.ensures in
    let same : c.feed_of.new.fed.items ≡ filter (is_fed run.owners s.number (driven_by run reader)) c.args.told.now =
    fed ∙ ap (λ (l : List ℕ). filter (is_fed l s.number c.self.inside.driven.now) c.args.told.now) c.requires.simulates.owners
    ∙ ap (λ (l : List Bool). filter (is_fed run.owners s.number l) c.args.told.now) driven in
    subst (λ (e : Envelope). IsMessage run e c.feed_of.new.fed.items) (sym c.envelope-envelope.ensures)
    (subst (λ n. AreTold run s.number reader n c.args.upto c.feed_of.new.fed.items) (sym c.clock.ensures)
    (subst (AreTold run s.number reader s.engine.clock c.args.upto) (sym same) (c.requires.told reader below)))

pub invariant_of-self : goal.invariant_of-self
invariant_of-self g c =
    let run = g.T.ShareRun.run in
    let was = c.self.invariant in
    let same : c.send.new.self.reader ≡ c.self.inside.outlet.reader =
    bool_cases c.send.result
    (λ h. ap (λ (e : Envelope). e.reader) (c.send.ensures.sent h ∙ c.new.ensures ∙ c.envelope-envelope.ensures) ∙ sym was.0)
    (λ h. ap (λ (e : Envelope). e.reader) (c.send.ensures.kept h)) in
    (same ∙ was.0, (subst (λ n. n < length run.driven) (sym same) was.1.0, was.1.1 ∙ ap (driven_by run) (sym same)))

pub returns-clause-reader : goal.returns-clause-reader
returns-clause-reader g c = λ h. ap (λ (e : Envelope). e.reader) (c.send.ensures.sent h ∙ c.new.ensures ∙ c.envelope-envelope.ensures) ∙ sym c.self.invariant.0 ∙ ap (λ (e : Envelope). e.reader) c.self.view_is
