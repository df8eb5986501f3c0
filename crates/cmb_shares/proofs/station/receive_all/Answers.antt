use Rattle.std.proofs.Common.{◌≡◌, ◌∙◌, ℕ, ◌+◌, ◌++◌, ◌<◌, ◌∷◌, [], List, length, get_or, ap, take, subst, sym, arith}
use Rattle.std.proofs.lemmas.List.{get_or_default, length-set}
use Rattle.cmb_engine.specs.Windows.{end_of}
use Rattle.cmb_words.specs.declared.changed.Changed.{Changed}
use Rattle.cmb_shares.specs.declared.message.Envelope.{Envelope}
use Rattle.cmb_shares.specs.Inner.Stations.{AreHeardOf, senders_of}
use Rattle.cmb_shares.proofs.HeardFacts.{heard-more, senders-more, senders-set, told-as}
use Rattle.cmb_shares.proofs.PlaceFacts.{written-more}
use Rattle.cmb_shares.proofs.station.receive_all.Goals as goal

pub loop-place-preserved : goal.loop-place-preserved
loop-place-preserved g c =
    let was = c.loop-place.invariant in
    let run = g.T.ShareRun.run in
    let inlets = c.loop-place.inlets in
    let place = c.loop-place.place in
    let next : Envelope = c.take.new.self in
    let old : Envelope = c.index-inlets-place.result in
    let m = c.in-Some.message in
    let number = c.args.simulator.now.number in
    let clock = c.args.simulator.now.engine.clock in
    let within : place < length inlets = omega (arith, c.loop-place-test.true, was.len) in
    let here = was.at.rest place old (omega arith) within in
    let follows = c.in-Some.ensures.follows in
    let last = c.in-Some.ensures.last in
    let reader : m.envelope.reader ≡ number = follows.reader ∙ here.0 in
    let upto : m.envelope.upto ≡ c.args.upto = follows.upto ∙ ap (end_of run.windows) here.1 ∙ sym c.requires.turn.end in
    let told = told-as run m.envelope (get_or inlets place old).sender number clock c.args.upto m.changes.items follows.sender reader (follows.from ∙ here.1) upto m.tells in
    let senders = senders-more inlets place old within in
    record {
      len = length-set inlets place next ∙ was.len;
      at = written-more _ _ inlets place next within (ap (λ (e : Envelope). e.reader) last ∙ reader, ap (λ (e : Envelope). e.upto) last ∙ upto) was.at;
      senders = senders-set inlets place next (ap (λ (e : Envelope). e.sender) last ∙ follows.sender ∙ ap (λ (e : Envelope). e.sender) (get_or_default inlets place old next within)) ∙ was.senders;
      heard =
          subst (λ (l : List ℕ). AreHeardOf run number clock c.args.upto l c.extend_from_slice.new.self.items)
          (sym senders ∙ ap (take (place + 1)) was.senders)
          (subst (λ (l : List Changed). AreHeardOf run number clock c.args.upto (take place (senders_of inlets) ++ (get_or inlets place old).sender ∷ []) l)
          (sym (c.in-Ok.ensures.items ∙ ap (λ (l : List Changed). c.loop-place.given.items ++ l) c.deref.ensures.value))
          (heard-more run number clock c.args.upto (take place (senders_of inlets)) c.loop-place.given.items (get_or inlets place old).sender m.changes.items
          (subst (λ (l : List ℕ). AreHeardOf run number clock c.args.upto (take place l) c.loop-place.given.items) (sym was.senders) was.heard) told));
    }
