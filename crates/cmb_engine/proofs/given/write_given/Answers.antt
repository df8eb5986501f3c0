use Rattle.std.proofs.Common.{◌≡◌, ◌+◌, ◌<◌, inl, inr, ℕ, true, List, [], ◌∷◌, ◌++◌, length, take, sym, ap, subst, ◌∙◌, arith}
use Rattle.std.proofs.lemmas.Bool.{cases_Bool}
use Rattle.std.proofs.lemmas.List.{take_all, take_more}
use Rattle.cmb_words.specs.declared.changed.Changed.{Changed}
use Rattle.cmb_engine.specs.Inner.Planes.{planes_of}
use Rattle.cmb_engine.specs.Inner.Bits.{has}
use Rattle.cmb_engine.specs.Inner.Cells.{AreMarked, readers_at}
use Rattle.cmb_engine.specs.Inner.Gifts.{is_written, AreWritten}
use Rattle.cmb_engine.specs.Inner.Roles.{gives}
use Rattle.cmb_engine.specs.Inner.Words.{levels_of}
use Rattle.cmb_engine.specs.declared.role.Role.{Role}
use Rattle.cmb_engine.proofs.GivenFacts.{IsTaken, taken-not, taken-put, written-first, written-on}
use Rattle.cmb_engine.proofs.WordFacts.{levels_of-read}
use Rattle.cmb_engine.proofs.WriteFacts.{writes-on}
use Rattle.cmb_engine.proofs.given.write_given.Goals as goal
use Rattle.cmb_engine.proofs.given.write_given.Goals.{then-is_given, else-is_given}

pub loop-one-preserved : goal.loop-one-preserved
loop-one-preserved c =
    let given : List Changed = c.args.given.now in
    let roles : List Role = c.args.roles.now in
    let k : ℕ = c.loop-one.one-index in
    let one : Changed = c.one-item.result in
    let so_far : List Changed = take k given in
    let next : take (k + 1) given ≡ so_far ++ one ∷ [] = take_more given k one (omega arith) ∙ ap (λ (x : Changed). so_far ++ x ∷ []) (sym c.one-item.is) in
    let taken : IsTaken roles (readers_at c.args.fanout.now.order c.args.fanout.now.gates) one c.args.first c.loop-one.words c.if-is_given.words c.loop-one.live c.if-is_given.live c.loop-one.marks c.if-is_given.marks =
    elim c.if-is_given.branch [
      | then-is_given w ↦
          let gift : gives roles one.net ≡ true = sym c.is_given.ensures ∙ w.if-is_given.true in
          let inside : one.net < length c.loop-one.words = omega (arith, c.requires.slots one.net gift, c.loop-one.invariant.writes.len) in
          rw (w.words-is, w.live-is, w.marks-is)
          (taken-put roles (readers_at c.args.fanout.now.order c.args.fanout.now.gates) one c.args.first c.loop-one.words w.put_word.new.words c.loop-one.live w.put_word.new.live c.loop-one.marks w.put_word.new.marks w.spliced-word.result
          gift inside w.put_word.ensures.words
          (λ place early. w.spliced-word.ensures.below place early ∙ sym (levels_of-read c.loop-one.words one.net w.get.result place inside (w.get.ensures (planes_of w.get.result))))
          w.spliced-word.ensures.from w.put_word.ensures.writes
          (subst (λ (readers : List ℕ). AreMarked (has w.put_word.new.marks) readers) w.gates_of.ensures w.put_word.ensures.news))
      | else-is_given w ↦
          rw (w.words-is, w.live-is, w.marks-is)
          (taken-not roles (readers_at c.args.fanout.now.order c.args.fanout.now.gates) one c.args.first c.loop-one.words c.loop-one.live c.loop-one.marks (sym c.is_given.ensures ∙ w.if-is_given.false))
    ] in
    record {
      writes = writes-on c.args.words.now c.loop-one.words c.if-is_given.words c.args.live.now c.loop-one.live c.if-is_given.live c.args.marks.now c.loop-one.marks c.if-is_given.marks
          c.loop-one.invariant.writes taken.writes;
      written = subst (λ (xs : List Changed). AreWritten roles xs (levels_of c.args.words.now) (levels_of c.if-is_given.words) c.args.first) (sym next)
          (written-on roles so_far (one ∷ []) (levels_of c.args.words.now) (levels_of c.loop-one.words) (levels_of c.if-is_given.words) c.args.first
          c.loop-one.invariant.written taken.written);
      news = subst (λ (xs : List Changed). (slot : ℕ) → is_written roles xs slot ≡ true → AreMarked (has c.if-is_given.marks) (readers_at c.args.fanout.now.order c.args.fanout.now.gates slot)) (sym next)
          (λ slot is.
          elim (cases_Bool (is_written roles (one ∷ []) slot)) [
            | inl h ↦ taken.news slot h
            | inr other ↦ λ j small. taken.writes.marks _ (c.loop-one.invariant.news slot (written-first roles so_far (one ∷ []) slot is other) j small)
          ]);
    }

pub returns-clause-written : goal.returns-clause-written
returns-clause-written c =
    subst (λ (xs : List Changed). AreWritten c.args.roles.now xs (levels_of c.args.words.now) (levels_of c.loop-one.words) c.args.first)
    (take_all c.loop-one.one-index c.args.given.now (omega arith)) c.loop-one.invariant.written

pub returns-clause-news : goal.returns-clause-news
returns-clause-news c = λ slot is.
    c.loop-one.invariant.news slot
    (ap (λ (given : List Changed). is_written c.args.roles.now given slot) (take_all c.loop-one.one-index c.args.given.now (omega arith)) ∙ is)
