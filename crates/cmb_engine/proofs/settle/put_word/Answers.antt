use Rattle.std.proofs.Common.{List, sym, subst}
use Rattle.cmb_engine.specs.Inner.Planes.{Planes}
use Rattle.cmb_engine.specs.Inner.Words.{Writes}
use Rattle.cmb_engine.proofs.WriteFacts.{writes-one}
use Rattle.cmb_engine.proofs.settle.put_word.Goals as goal

pub returns-clause-writes : goal.returns-clause-writes
returns-clause-writes c =
    subst (λ (words : List Planes). Writes c.args.words.now words c.args.live.now c.insert.new.self c.args.marks.now c.mark_all.new.marks) (sym c.set.ensures)
    (writes-one c.args.words.now c.args.slot c.args.word c.args.live.now c.insert.new.self c.args.marks.now c.mark_all.new.marks c.insert.ensures.len c.insert.ensures.has
    c.mark_all.ensures.len c.mark_all.ensures.kept)
