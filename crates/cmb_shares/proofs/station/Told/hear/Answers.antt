use Rattle.std.proofs.Common.{◌≡◌, ◌∙◌, ℕ, List, ◌∷◌, ◌++◌, length, take, drop, ap, refl, subst, sym, arith}
use Rattle.std.proofs.lemmas.List.{take_at}
use Rattle.std.proofs.lemmas.List.Elements.{All-cons}
use Rattle.cmb_design_model.specs.Value.{value}
use Rattle.cmb_engine.specs.Shares.{IsGiven, TellsThose}
use Rattle.cmb_engine.specs.Windows.{end_of}
use Rattle.cmb_words.specs.declared.changed.Changed.{Changed}
use Rattle.cmb_shares.specs.declared.message.Envelope.{Envelope}
use Rattle.cmb_shares.specs.Inner.Processes.{Member, Turns, member_of}
use Rattle.cmb_shares.specs.Inner.Runs.{driven_by}
use Rattle.cmb_shares.specs.Inner.Stations.{AreFed, AreHeard, Covers, HasTold, Standing, readers_of, senders_of}
use Rattle.cmb_shares.proofs.HeardFacts.{heard-given}
use Rattle.cmb_shares.proofs.ProcessFacts.{member-turns}
use Rattle.cmb_shares.proofs.station.Told.hear.Goals as goal

pub advance-requires-clause-given : goal.advance-requires-clause-given
advance-requires-clause-given g c =
    let run = g.T.ShareRun.run in
    let was = c.self.inside in
    let held = c.self.invariant in
    let covers : Covers run was.simulator.number (senders_of c.deref_mut.result.now) = subst (λ (l : List Envelope). Covers run was.simulator.number (senders_of l)) (sym c.deref_mut.ensures.value) held.covers in
    subst (λ (l : List Changed). TellsThose (IsGiven run.design (driven_by run was.simulator.number)) (value run.design) was.simulator.engine.clock was.upto l) (sym c.deref-2.ensures.value)
    (heard-given run was.simulator.number was.simulator.engine.clock was.upto _ _ held.simulates.lawful held.simulates.number covers (c.if-not-receive_all.ensures.given refl))

pub invariant_of-result : goal.invariant_of-result
invariant_of-result g c =
    let was = c.self.inside in
    let held = c.self.invariant in
    let next = c.in-Ok.simulator in
    let went = c.in-Ok.ensures in
    let inlets = c.receive_all.new.inlets in
    let here : take was.inlets.len (inlets ++ drop (length inlets) was.inlets.items) ≡ inlets = take_at inlets (drop (length inlets) was.inlets.items) was.inlets.len (omega (arith, c.receive_all.auto.inlets, c.deref_mut.ensures.len)) in
    let text = c.if-not-send.ensures.sent refl ∙ c.new.ensures ∙ c.envelope-envelope.ensures in
    record {
      simulates = went.simulates;
      heard =
          subst (λ (l : List Envelope). AreHeard next.number next.engine.clock l) (sym here)
          (subst (λ (n : ℕ). AreHeard n next.engine.clock inlets) (sym went.number)
          (subst (λ (n : ℕ). AreHeard was.simulator.number n inlets) (sym went.clock) (c.if-not-receive_all.ensures.heard refl)));
      fed =
          subst (λ (n : ℕ). AreFed n next.engine.clock was.feeds.items) (sym went.number)
          (subst (λ (n : ℕ). AreFed was.simulator.number n was.feeds.items) (sym went.clock) held.fed);
      sender = ap (λ (e : Envelope). e.sender) text;
      reader = ap (λ (e : Envelope). e.reader) text ∙ went.simulates.shares;
      told = ap (λ (e : Envelope). e.upto) text ∙ sym went.clock;
    }

pub returns-clause-covers : goal.returns-clause-covers
returns-clause-covers g c =
    let run = g.T.ShareRun.run in
    let was = c.self.inside in
    let held = c.self.invariant in
    let next = c.in-Ok.simulator in
    let inlets = c.receive_all.new.inlets in
    let here : take was.inlets.len (inlets ++ drop (length inlets) was.inlets.items) ≡ inlets = take_at inlets (drop (length inlets) was.inlets.items) was.inlets.len (omega (arith, c.receive_all.auto.inlets, c.deref_mut.ensures.len)) in
    let same : senders_of inlets ≡ senders_of was.inlets.items = c.if-not-receive_all.ensures.senders refl ∙ ap senders_of c.deref_mut.ensures.value in
    subst (λ (l : List Envelope). Covers run next.number (senders_of l)) (sym here)
    (subst (λ (n : ℕ). Covers run n (senders_of inlets)) (sym c.in-Ok.ensures.number)
    (subst (λ (l : List ℕ). Covers run was.simulator.number l) (sym same) held.covers))

pub returns-clause-turns : goal.returns-clause-turns
returns-clause-turns g c = λ before tells.
    let run = g.T.ShareRun.run in
    let was = c.self.inside in
    let held = c.self.invariant in
    let next = c.in-Ok.simulator in
    let went = c.in-Ok.ensures in
    let heard = c.if-not-receive_all.ensures in
    let inlets = c.receive_all.new.inlets in
    let sent : Envelope = c.send.new.self in
    let inside : Standing = record {
      number = was.simulator.number;
      clock = was.simulator.engine.clock;
      senders = senders_of was.inlets.items;
      inlets = was.inlets.items;
      feeds = was.feeds.items;
      text = was.text;
    } in
    let told : HasTold before inside = subst (λ (s : Standing). HasTold before s) (sym c.self.view_is) tells in
    let new : Member = record { number = next.number; clock = next.engine.clock; outs = sent ∷ was.feeds.items; ins = inlets } in
    let here : take was.inlets.len (inlets ++ drop (length inlets) was.inlets.items) ≡ inlets = take_at inlets (drop (length inlets) was.inlets.items) was.inlets.len (omega (arith, c.receive_all.auto.inlets, c.deref_mut.ensures.len)) in
    let text = c.if-not-send.ensures.sent refl ∙ c.new.ensures ∙ c.envelope-envelope.ensures in
    let reader : sent.reader ≡ before.text.reader = ap (λ (e : Envelope). e.reader) text ∙ went.simulates.shares ∙ sym held.reader ∙ ap (λ (e : Envelope). e.reader) told.text in
    let readers : readers_of (sent ∷ was.feeds.items) ≡ readers_of (before.text ∷ before.feeds) =
    ap (λ (n : ℕ). n ∷ readers_of was.feeds.items) reader ∙ ap (λ (l : List ℕ). before.text.reader ∷ l) told.readers in
    let ins : AreHeard was.simulator.number was.simulator.engine.clock before.inlets = subst (λ (l : List Envelope). AreHeard was.simulator.number was.simulator.engine.clock l) told.inlets held.heard in
    let turns : Turns run (member_of before) new =
    member-turns run (member_of before) new (omega (arith, held.simulates.number, told.number)) (omega (arith, held.turn.early, told.clock))
    (All-cons (λ (e : Envelope). e.upto ≡ before.clock) before.text before.feeds (ap (λ (e : Envelope). e.upto) (sym told.text) ∙ held.told ∙ told.clock) (λ k d h. (told.fed k d h).1)) (λ k d h. (ins k d h).1 ∙ told.clock)
    (All-cons (λ (e : Envelope). e.upto ≡ next.engine.clock) sent was.feeds.items (ap (λ (e : Envelope). e.upto) text ∙ sym went.clock) (λ k d h. (held.fed k d h).1 ∙ sym went.clock))
    (λ k d h. (heard.heard refl k d h).1 ∙ sym went.clock) readers (heard.senders refl ∙ ap senders_of c.deref_mut.ensures.value ∙ ap senders_of told.inlets) (went.clock ∙ held.turn.end ∙ ap (end_of run.windows) told.clock) (went.number ∙ told.number) in
    subst (λ (l : List Envelope). Turns run (member_of before) (record { number = next.number; clock = next.engine.clock; outs = sent ∷ was.feeds.items; ins = l })) (sym here) turns
