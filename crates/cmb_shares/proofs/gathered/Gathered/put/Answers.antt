use Rattle.std.proofs.Common.{◌<◌, [], ◌∷◌, length, subst, sym}
use Rattle.cmb_shares.specs.Inner.Gatherings.{Adds, Table}
use Rattle.cmb_shares.proofs.GatherFacts.{put_to, puts, puts-table}
use Rattle.cmb_shares.proofs.gathered.Gathered.put.Goals as goal

pub invariant_of-self : goal.invariant_of-self
invariant_of-self c =
    puts-table c.self.inside.words.items c.self.inside.marks.items c.args.one c.index_mut-2.result.now c.index_mut-2.ensures.value c.self.invariant
    (subst (λ (t : Table). c.args.one.net < length t.words) (sym c.self.view_is) c.requires)

pub returns : goal.returns
returns c =
    let words = c.self.inside.words.items in
    let marks = c.self.inside.marks.items in
    let read = c.index_mut-2.ensures.value in
    let within : c.args.one.net < length words = subst (λ (t : Table). c.args.one.net < length t.words) (sym c.self.view_is) c.requires in
    subst (λ (t : Table). Adds (c.args.one ∷ []) t (put_to words marks c.args.one c.index_mut-2.result.now read c.self.invariant within)) c.self.view_is
    (puts words marks c.args.one c.index_mut-2.result.now read c.self.invariant within)
