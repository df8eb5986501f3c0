use Rattle.std.proofs.Common.{◌≡◌, ◌⊎◌, inl, inr, ◌∙◌, ◌+◌, ◌<◌, ℕ, Bool, false, ap, sym, subst, arith, length, get_or, set}
use Rattle.std.proofs.lemmas.List.{get_or_default}
use Rattle.cmb_count.specs.Inner.Arrivals.{AreSettled, Covers, closed}
use Rattle.cmb_count.specs.declared.arrivals.Arrival.{Arrival}
use Rattle.cmb_count.specs.declared.arrivals.Arrival.TheVariants.{Never}
use Rattle.cmb_count.specs.declared.components.Ranked.{Ranked}
use Rattle.cmb_count.proofs.ArrivalFacts.{settled_more}
use Rattle.cmb_count.proofs.arrivals.settle.Goals as goal

either_by : (new a b a' b' : Arrival) → a ≡ a' → b ≡ b' → (new ≡ a) ⊎ (new ≡ b) → (new ≡ a') ⊎ (new ≡ b')
either_by new a b a' b' p q (inl e) = inl (e ∙ p)
either_by new a b a' b' p q (inr e) = inr (e ∙ q)

pub returns : goal.returns
returns c =
    let design = c.args.design.now in
    let components = c.args.components.now in
    let times = c.args.times.now in
    let net = c.index.result.now.net in
    let a = c.arrival_at-arrival.result in
    let listed = (c.requires.components.order.each c.args.place c.index.result.now c.requires.within).0 in
    let low : net < length components.numbers.items = subst (λ (r : Ranked). r.net < length components.numbers.items) (sym c.index.ensures) listed in
    let number : c.index-number.result.now ≡ get_or components.numbers.items net 0
    = c.index-number.ensures ∙ get_or_default components.numbers.items net c.index-number.result.now 0 low in
    let shut : c.closed.result ≡ closed (get_or components.loops.items net false) a
    = c.closed.ensures
    ∙ ap (λ (b : Bool). closed b a)
    (c.index-2.ensures ∙ get_or_default components.loops.items net c.index-2.result.now false (omega (arith, low, c.requires.components.parts.nets, c.requires.components.loops.long))) in
    let P : ℕ → Type 0 = λ p. AreSettled design c.args.between components (set times p c.latest.result) (c.args.place + 1) in
    subst P (sym number)
    (settled_more design c.args.between components times c.args.place net c.index.result.now a c.latest.result c.requires.sound c.requires.components c.requires.settled c.requires.within
    (ap (λ (r : Ranked). r.net) c.index.ensures)
    c.arrival_at-arrival.ensures
    (λ t h. c.latest.ensures.one t (subst (λ (p : ℕ). Covers (get_or times p Never) t) (sym number) h))
    (λ t h. c.latest.ensures.other t (subst (λ (b : Arrival). Covers b t) (sym shut) h))
    (either_by c.latest.result (get_or times c.index-number.result.now Never) c.closed.result (get_or times (get_or components.numbers.items net 0) Never) (closed (get_or components.loops.items net false) a)
    (ap (λ (p : ℕ). get_or times p Never) number) shut c.latest.ensures.either))
