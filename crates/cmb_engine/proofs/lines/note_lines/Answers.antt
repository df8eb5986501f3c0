use Rattle.std.proofs.Common.{◌≡◌, ◌+◌, ◌<◌, ℕ, [], List, length, get_or, take, subst, sym, arith}
use Rattle.std.specs.Prelude.{◌↔◌, Contains}
use Rattle.std.proofs.lemmas.List.{take_all}
use Rattle.std.proofs.lemmas.List.Elements.{Contains-get_or}
use Rattle.std.proofs.lemmas.Option.{slice_get_within}
use Rattle.cmb_words.specs.declared.changed.Changed.{Changed}
use Rattle.cmb_engine.specs.Inner.Lines.{NotesEach, Follows, IsOfFollower, IsOfLine}
use Rattle.cmb_engine.proofs.LineFacts.{line-none, line-parts, line-before, line-last, rises-within}
use Rattle.cmb_engine.proofs.NoteFacts.{ticks-on, ticks-same, notes-none, notes-more}
use Rattle.cmb_engine.proofs.lines.note_lines.Goals as goal

pub of-numbers-requires : goal.of-numbers-requires
of-numbers-requires c =
    subst (λ (one : Changed). one.net < length c.args.followers.now) (sym c.one-item.is)
    (rises-within 0 (length c.args.followers.now) c.args.changed.now c.requires.changed c.loop-one.one-index c.one-item.result (omega arith))

pub note_followers-requires-clause-within : goal.note_followers-requires-clause-within
note_followers-requires-clause-within c = λ k d small.
    let inside : c.one-item.result.net < length c.args.followers.now =
    subst (λ (one : Changed). one.net < length c.args.followers.now) (sym c.one-item.is)
    (rises-within 0 (length c.args.followers.now) c.args.changed.now c.requires.changed c.loop-one.one-index c.one-item.result (omega arith)) in
    let list : c.of-numbers.result.now ≡ get_or c.args.followers.now c.one-item.result.net [] = c.of-numbers.ensures in
    let number : ℕ = get_or c.of-numbers.result.now k d in
    let follows : Follows c.args.lines.now number c.one-item.result.net =
    (c.requires.followers.exact c.one-item.result.net number).0
    (subst (λ (xs : List ℕ). Contains xs number) list (Contains-get_or c.of-numbers.result.now k d small)) in
    slice_get_within c.args.lines.now number follows.0 follows.1

pub loop-one-init : goal.loop-one-init
loop-one-init c = record {
  notes = notes-none (IsOfLine [] c.args.lines.now (length c.args.followers.now) c.args.to c.args.first) c.args.calendar.now
      (line-none c.args.lines.now (length c.args.followers.now) c.args.to c.args.first);
  ticks = ticks-same c.args.calendar.now;
}

pub loop-one-preserved : goal.loop-one-preserved
loop-one-preserved c =
    let i : ℕ = c.loop-one.one-index in
    let nets : ℕ = length c.args.followers.now in
    let one : Changed = c.one-item.result in
    let small : i < length c.args.changed.now = omega arith in
    let inside : one.net < nets =
    subst (λ (one : Changed). one.net < length c.args.followers.now) (sym c.one-item.is)
    (rises-within 0 (length c.args.followers.now) c.args.changed.now c.requires.changed i one small) in
    let list : c.of-numbers.result.now ≡ get_or c.args.followers.now one.net [] = c.of-numbers.ensures in
    let follow : (number : ℕ) → Contains c.of-numbers.result.now number ↔ Follows c.args.lines.now number one.net =
    subst (λ (xs : List ℕ). (number : ℕ) → Contains xs number ↔ Follows c.args.lines.now number one.net) (sym list) (c.requires.followers.exact one.net) in
    record {
      notes = notes-more
          (IsOfLine (take i c.args.changed.now) c.args.lines.now nets c.args.to c.args.first)
          (IsOfFollower one.word c.of-numbers.result.now c.args.lines.now nets c.args.to c.args.first)
          (IsOfLine (take (i + 1) c.args.changed.now) c.args.lines.now nets c.args.to c.args.first)
          c.args.calendar.now c.loop-one.calendar c.note_followers.new.calendar c.loop-one.invariant.ticks.horizon
          (line-parts c.args.changed.now i one small c.one-item.is c.args.lines.now nets c.args.to c.args.first c.of-numbers.result.now follow)
          (line-before c.args.changed.now i one small c.one-item.is c.args.lines.now nets c.args.to c.args.first c.of-numbers.result.now follow)
          (line-last c.args.changed.now i one small c.one-item.is c.args.lines.now nets c.args.to c.args.first c.of-numbers.result.now follow)
          c.loop-one.invariant.notes
          (subst (λ (n : ℕ). NotesEach (IsOfFollower one.word c.of-numbers.result.now c.args.lines.now n c.args.to c.args.first) c.loop-one.calendar c.note_followers.new.calendar)
          c.len-nets.ensures c.in_ok-note_followers.ensures.notes);
      ticks = ticks-on c.args.calendar.now c.loop-one.calendar c.note_followers.new.calendar c.loop-one.invariant.ticks c.note_followers.ensures.ticks;
    }

pub returns-clause-notes : goal.returns-clause-notes
returns-clause-notes c =
    subst (λ (changed : List Changed). NotesEach (IsOfLine changed c.args.lines.now (length c.args.followers.now) c.args.to c.args.first) c.args.calendar.now c.loop-one.calendar)
    (take_all c.loop-one.one-index c.args.changed.now (omega arith)) c.loop-one.invariant.notes
