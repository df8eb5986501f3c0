use Rattle.std.proofs.Common.{◌≡◌, ◌∙◌, ◌+◌, ◌++◌, [], ◌∷◌, List, ap, subst, sym, take}
use Rattle.std.proofs.lemmas.List.{take_more}
use Rattle.cmb_words.specs.declared.changed.Changed.{Changed}
use Rattle.cmb_shares.specs.Inner.Gatherings.{Adds}
use Rattle.cmb_shares.proofs.GatherFacts.{adds-more}
use Rattle.cmb_shares.proofs.gathered.Gathered.add.Goals as goal

pub loop-one-preserved : goal.loop-one-preserved
loop-one-preserved c =
    let changes = c.args.changes.now in
    let i = c.loop-one.one-index in
    let one = c.one-item.result in
    let more : take (i + 1) changes ≡ take i changes ++ one ∷ [] = take_more changes i one c.loop-one-test.true ∙ ap (λ (x : Changed). take i changes ++ x ∷ []) (sym c.one-item.is) in
    subst (λ (l : List Changed). Adds l c.args.self.now c.put.new.self) (sym more)
    (adds-more (take i changes) one c.args.self.now c.loop-one.self c.put.new.self c.loop-one.invariant c.put.ensures)
