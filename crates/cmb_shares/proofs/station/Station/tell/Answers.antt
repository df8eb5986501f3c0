use Rattle.std.proofs.Common.{◌≡◌, ◌∙◌, List, ◌++◌, length, take, drop, ap, refl, subst, sym, arith}
use Rattle.std.proofs.lemmas.List.{take_at}
use Rattle.cmb_words.specs.declared.changed.Changed.{Changed}
use Rattle.cmb_shares.specs.declared.message.Envelope.{Envelope}
use Rattle.cmb_shares.specs.Inner.Simulators.{IsToldAhead}
use Rattle.cmb_shares.specs.Inner.Stations.{AreFed, Covers, HasTold, Standing, readers_of, senders_of}
use Rattle.cmb_shares.proofs.station.Station.tell.Goals as goal

pub send_all-requires-clause-told : goal.send_all-requires-clause-told
send_all-requires-clause-told g c =
    let s = c.self.inside.simulator in
    subst (λ (l : List Changed). IsToldAhead g.T.ShareRun.run s.number s.engine.clock c.next_end-upto.result l) (sym c.deref.ensures.value) c.in-Ok.ensures

pub invariant_of-result : goal.invariant_of-result
invariant_of-result g c =
    let was = c.self.inside in
    let held = c.self.invariant in
    let feeds = c.send_all.new.feeds in
    let there : take was.feeds.len (feeds ++ drop (length feeds) was.feeds.items) ≡ feeds = take_at feeds (drop (length feeds) was.feeds.items) was.feeds.len (omega (arith, c.send_all.auto.feeds, c.deref_mut.ensures.len)) in
    record {
      simulates = held.simulates;
      turn = c.next_end-upto.ensures;
      heard = held.heard;
      covers = subst (λ (s : Standing). Covers g.T.ShareRun.run s.number s.senders) (sym c.self.view_is) c.requires.covers;
      fed = subst (λ (l : List Envelope). AreFed was.simulator.number c.next_end-upto.result l) (sym there) (c.send_all.ensures.fed c.if-not-send_all.false);
      sender = held.sender;
      reader = held.reader;
      told = held.told;
    }

pub returns : goal.returns
returns g c =
    let was = c.self.inside in
    let held = c.self.invariant in
    let feeds = c.send_all.new.feeds in
    let there : take was.feeds.len (feeds ++ drop (length feeds) was.feeds.items) ≡ feeds = take_at feeds (drop (length feeds) was.feeds.items) was.feeds.len (omega (arith, c.send_all.auto.feeds, c.deref_mut.ensures.len)) in
    let told : Standing = record {
      number = was.simulator.number;
      clock = was.simulator.engine.clock;
      senders = senders_of was.inlets.items;
      inlets = was.inlets.items;
      feeds = take was.feeds.len (feeds ++ drop (length feeds) was.feeds.items);
      text = was.text;
    } in
    subst (λ (s : Standing). HasTold s told) c.self.view_is
    (record {
      number = refl;
      clock = refl;
      inlets = refl;
      text = refl;
      readers = ap readers_of there ∙ c.send_all.ensures.readers c.if-not-send_all.false ∙ ap readers_of c.deref_mut.ensures.value;
      fed = held.fed;
    })
