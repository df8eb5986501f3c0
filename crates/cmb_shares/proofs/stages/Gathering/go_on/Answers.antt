use Rattle.std.proofs.Common.{◌≡◌, ◌∙◌, suc, ◌+◌, ◌<◌, ◌≤◌, List, length, map, ap, refl, subst, sym, arith}
use Rattle.std.proofs.lemmas.List.{get_or-map, length-map}
use Rattle.cmb_words.specs.declared.changed.Changed.{Changed}
use Rattle.cmb_shares.specs.declared.message.Envelope.{Envelope}
use Rattle.cmb_shares.specs.Inner.Gatherings.{Adds}
use Rattle.cmb_shares.proofs.FlowFacts.{made-as, made-fewer, made-more, taken-none}
use Rattle.cmb_shares.proofs.HeardFacts.{told-as}
use Rattle.cmb_shares.proofs.stages.Gathering.go_on.Goals as goal

pub invariant_of-result : goal.invariant_of-result
invariant_of-result g c =
    let run = g.T.ShareRun.run in
    let job = c.args.self.job in
    let place = c.args.self.place in
    let part = c.index.result.now in
    let all = length run.driven in
    let within : place < length (map (λ m. m.envelope) job.parts.items) = omega (arith, c.if-place-len.true, c.len.ensures, length-map job.parts.items (λ m. m.envelope)) in
    let here : part.envelope ≡ record { sender = place; reader = all; from = job.from; upto = job.upto } =
    ap (λ m. m.envelope) c.index.ensures ∙ sym (get_or-map (λ m. m.envelope) job.parts.items place part part.envelope (omega (arith, c.if-place-len.true, c.len.ensures))) ∙ job.sent.each place part.envelope within in
    let told = told-as run part.envelope place all job.from job.upto part.changes.items (ap (λ (e : Envelope). e.sender) here) (ap (λ (e : Envelope). e.reader) here) (ap (λ (e : Envelope). e.from) here) (ap (λ (e : Envelope). e.upto) here) part.tells in
    let added = subst (λ (l : List Changed). Adds l c.args.self.gathered c.add.new.self) c.deref.ensures.value c.add.ensures in
    record {
      made =
          made-as run (suc place) (place + 1) job.from job.from job.upto job.upto c.add.new.self (omega arith) refl refl
          (made-more run place all job.from job.upto part.changes.items c.args.self.gathered c.add.new.self (omega arith) c.args.self.made told added);
    }

pub invariant_of-result-2 : goal.invariant_of-result-2
invariant_of-result-2 g c =
    let run = g.T.ShareRun.run in
    let job = c.args.self.job in
    let most : length run.driven ≤ c.args.self.place = omega (arith, c.if-place-len.false, c.len.ensures, job.sent.count, length-map job.parts.items (λ m. m.envelope)) in
    record {
      lawful = job.sent.lawful;
      turn = job.sent.turn;
      within = omega arith;
      made = made-fewer run (length run.driven) c.args.self.place job.from job.upto c.args.self.gathered most c.args.self.made;
      taken = taken-none c.args.self.gathered c.clear.new.self.items c.clear.ensures.items;
    }
