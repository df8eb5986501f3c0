use Rattle.std.proofs.Common.{◌*◌, ◌∙◌, length, arith}
use Rattle.cmb_engine.specs.Inner.Bits.{has}
use Rattle.cmb_engine.specs.Inner.Cells.{readers_at}
use Rattle.cmb_engine.specs.Inner.Words.{levels_of}
use Rattle.cmb_engine.proofs.MoveFacts.{moved-all, moved-word, quiet-word, told-all, told-word}
use Rattle.cmb_engine.proofs.moves.move_on.Goals as goal

pub words-preserved : goal.words-preserved
words-preserved c =
    let word = c.in-Some.ensures.0 in
    let batch = c.in-Some.batch in
    record {
      len = c.move_word-steady.ensures.len ∙ c.words.invariant.len;
      live = c.take_places.ensures.len ∙ c.words.invariant.live;
      room = c.move_word-steady.ensures.moves.room ∙ c.words.invariant.room;
      kept = λ m h. c.move_word-steady.ensures.moves.kept m (c.words.invariant.kept m h);
      moved = moved-word c.words.live c.words.from _ batch.base batch.places word (levels_of c.words.words) (levels_of c.move_word-steady.new.words) c.move_word-steady.ensures.moves.others
          (levels_of c.args.words.now) (length c.args.words.now) c.args.ticks c.move_word-steady.ensures.moves.moved c.words.invariant.quiet c.words.invariant.moved;
      quiet = quiet-word c.words.live c.words.from _ batch.base batch.places word (levels_of c.words.words) (levels_of c.move_word-steady.new.words) c.move_word-steady.ensures.moves.others
          c.take_places.new.self c.move_word-steady.result c.take_places.ensures.has c.move_word-steady.ensures.moves.still (length c.args.words.now) c.words.invariant.quiet;
      told = told-word c.words.live c.words.from _ batch.base batch.places word (levels_of c.words.words) (levels_of c.move_word-steady.new.words) c.move_word-steady.ensures.moves.others
          c.take_places.new.self c.move_word-steady.result c.take_places.ensures.has c.move_word-steady.ensures.moves.still (readers_at c.args.fanout.now.order c.args.fanout.now.gates) c.words.marks c.move_word-steady.new.marks
          (length c.args.words.now) c.args.first c.move_word-steady.ensures.moves.kept
          (λ slot set inside. c.move_word-steady.ensures.moves.news slot set (omega (arith, inside, c.words.invariant.len))) c.words.invariant.told;
    }

pub returns-clause-moved : goal.returns-clause-moved
returns-clause-moved c =
    moved-all c.args.words.now c.words.words (has c.words.live) c.args.ticks (64 * c.words.from) c.words.invariant.len
    (λ slot late inside. c.in_default.ensures slot late (omega (arith, inside, c.words.invariant.len))) c.words.invariant.quiet c.words.invariant.moved

pub returns-clause-news : goal.returns-clause-news
returns-clause-news c =
    told-all (readers_at c.args.fanout.now.order c.args.fanout.now.gates) (levels_of c.words.words) (length c.args.words.now) c.words.live c.words.marks c.args.first (64 * c.words.from)
    (λ slot late inside. c.in_default.ensures slot late (omega (arith, inside, c.words.invariant.len))) c.words.invariant.told
