use Rattle.std.proofs.Common.{◌≡◌, ◌∙◌, length, replicate, ap, rules, arith}
use Rattle.std.proofs.lemmas.List.{length-replicate}
use Rattle.cmb_shares.specs.Inner.Gatherings.{Table}
use Rattle.cmb_shares.proofs.GatherFacts.{blank, blank-table}
use Rattle.cmb_shares.proofs.gathered.Gathered.clear.Goals as goal

pub invariant_of-self : goal.invariant_of-self
invariant_of-self c =
    let was = c.self.inside.marks.items in
    let items : c.fill.new.self.items ≡ replicate (length was) 0 = search rules in
    let long : length c.fill.new.self.items ≡ length was = ap length items ∙ length-replicate (length was) 0 in
    blank-table c.self.inside.words.items c.fill.new.self.items c.self.invariant.few (omega (arith, c.self.invariant.room, long))
    (blank c.self.inside.words.items c.fill.new.self.items (length c.self.inside.words.items) (length was) (λ i. length c.self.inside.words.items) items)

pub returns : goal.returns
returns c =
    let was = c.self.inside.marks.items in
    let items : c.fill.new.self.items ≡ replicate (length was) 0 = search rules in
    blank c.self.inside.words.items c.fill.new.self.items (length c.args.self.now.words) (length was) (ap (λ (t : Table). length t.words) c.self.view_is) items
