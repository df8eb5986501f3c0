use Rattle.std.proofs.Common.{◌≡◌, ◌∙◌, ◌<◌, List, length, map, ap, subst, sym, arith}
use Rattle.std.proofs.lemmas.List.{get_or-map, length-map}
use Rattle.cmb_words.specs.declared.changed.Changed.{Changed}
use Rattle.cmb_shares.specs.declared.message.Envelope.{Envelope}
use Rattle.cmb_shares.specs.Inner.Flows.{AreMade}
use Rattle.cmb_shares.proofs.FlowFacts.{made-alone}
use Rattle.cmb_shares.proofs.HeardFacts.{told-as}
use Rattle.cmb_shares.proofs.stages.Free.begin_alone.Goals as goal

pub begin-requires-clause-made : goal.begin-requires-clause-made
begin-requires-clause-made g c =
    let run = g.T.ShareRun.run in
    let job = c.args.job in
    let part = c.swap_remove-message.result in
    let all = length run.driven in
    let one : all ≡ 1 = omega (arith, job.sent.count, length-map job.parts.items (λ m. m.envelope), c.requires) in
    let within : 0 < length (map (λ m. m.envelope) job.parts.items) = omega (arith, length-map job.parts.items (λ m. m.envelope), c.requires) in
    let here : part.envelope ≡ record { sender = 0; reader = all; from = job.from; upto = job.upto } =
    ap (λ m. m.envelope) c.swap_remove-message.ensures.value ∙ sym (get_or-map (λ m. m.envelope) job.parts.items 0 part part.envelope (omega (arith, c.requires))) ∙ job.sent.each 0 part.envelope within in
    let told = told-as run part.envelope 0 all job.from job.upto part.changes.items (ap (λ (e : Envelope). e.sender) here) (ap (λ (e : Envelope). e.reader) here) (ap (λ (e : Envelope). e.from) here) (ap (λ (e : Envelope). e.upto) here) part.tells in
    subst (λ (l : List Changed). AreMade run all job.from job.upto l) (sym (ap (λ v. v.items) c.swap.ensures.x_after)) (made-alone run job.from job.upto part.changes.items one told)
