use Rattle.std.proofs.Common.{◌*◌, ◌≤◌, length, subst, arith}
use Rattle.cmb_shares.specs.Inner.Gatherings.{AreTaken, IsTable, Table, table_of}
use Rattle.cmb_shares.proofs.GatherFacts.{taken-all}
use Rattle.cmb_shares.proofs.gathered.Gathered.tell.Goals as goal

pub returns-after-loop-next-clause-whole : goal.returns-after-loop-next-clause-whole
returns-after-loop-next-clause-whole c = λ through.
    let table : Table = table_of c.self.inside.words.items c.self.inside.marks.items in
    let all : (t : Table) → IsTable t → length t.marks ≤ c.loop-next.next → AreTaken t (64 * c.loop-next.next) c.loop-next.all.items → AreTaken t (length t.words) c.loop-next.all.items =
    λ t is late are. taken-all t (64 * c.loop-next.next) c.loop-next.all.items is (omega (arith, is.room, late)) are in
    all c.args.self.now (subst IsTable c.self.view_is c.self.invariant) through c.loop-next.invariant.taken
