use Rattle.std.proofs.Common.{◌∙◌, ◌<◌, length, ap, refl, arith}
use Rattle.std.proofs.lemmas.List.{get_or_default, length-set}
use Rattle.cmb_shares.specs.declared.message.Envelope.{Envelope}
use Rattle.cmb_shares.proofs.HeardFacts.{readers-set}
use Rattle.cmb_shares.proofs.PlaceFacts.{written-all, written-more, written-none}
use Rattle.cmb_shares.proofs.station.send_all.Goals as goal

pub send_to-requires-clause-sender : goal.send_to-requires-clause-sender
send_to-requires-clause-sender g c =
    let was = c.loop-place.invariant in
    (was.at.rest c.loop-place.place c.index-feeds-place.result (omega arith) (omega (arith, c.loop-place-test.true, was.len))).0

pub send_to-requires-clause-begins : goal.send_to-requires-clause-begins
send_to-requires-clause-begins g c =
    let was = c.loop-place.invariant in
    (was.at.rest c.loop-place.place c.index-feeds-place.result (omega arith) (omega (arith, c.loop-place-test.true, was.len))).1

pub loop-place-init : goal.loop-place-init
loop-place-init g c = record { len = refl; readers = refl; at = written-none _ _ c.args.feeds.now c.requires.fed }

pub loop-place-preserved : goal.loop-place-preserved
loop-place-preserved g c =
    let was = c.loop-place.invariant in
    let next : Envelope = c.send_to.new.self in
    let old : Envelope = c.index-feeds-place.result in
    let within : c.loop-place.place < length c.loop-place.feeds = omega (arith, c.loop-place-test.true, was.len) in
    record {
      len = length-set c.loop-place.feeds c.loop-place.place next ∙ was.len;
      readers =
          readers-set c.loop-place.feeds c.loop-place.place next
          (c.send_to.ensures.reader c.if-not-send_to.false ∙ ap (λ (e : Envelope). e.reader) (get_or_default c.loop-place.feeds c.loop-place.place old next within)) ∙ was.readers;
      at = written-more _ _ c.loop-place.feeds c.loop-place.place next within (c.send_to.ensures.told c.if-not-send_to.false) was.at;
    }

pub returns-clause-fed : goal.returns-clause-fed
returns-clause-fed g c = λ _.
    let was = c.loop-place.invariant in
    written-all _ _ c.loop-place.feeds c.loop-place.place (omega (arith, c.loop-place-test.false, was.len)) was.at
