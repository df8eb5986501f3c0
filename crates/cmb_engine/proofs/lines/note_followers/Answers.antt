use Rattle.std.proofs.Common.{◌+◌, ◌<◌, ℕ, List, length, get_or, take, subst, arith}
use Rattle.std.proofs.lemmas.List.{take_all}
use Rattle.cmb_engine.specs.declared.cell.Pin.{Pin}
use Rattle.cmb_engine.specs.Inner.Lines.{NotesEach, IsOfChange, IsOfFollower}
use Rattle.cmb_engine.proofs.LineFacts.{follower-parts, follower-before, follower-last}
use Rattle.cmb_engine.proofs.NoteFacts.{ticks-on, notes-more}
use Rattle.cmb_engine.proofs.lines.note_followers.Goals as goal

pub loop-number-preserved : goal.loop-number-preserved
loop-number-preserved c =
    let none : Pin = record { net = 0; delay = 0 } in
    let i : ℕ = c.loop-number.number-index in
    let inside : i < length c.args.followers.now = omega arith in
    let number : ℕ = get_or c.args.followers.now i 0 in
    record {
      notes = notes-more
          (IsOfFollower c.args.word (take i c.args.followers.now) c.args.lines.now c.args.nets c.args.to c.args.first)
          (IsOfChange c.args.word (c.args.nets + number) (get_or c.args.lines.now number none).delay c.args.to c.args.first)
          (IsOfFollower c.args.word (take (i + 1) c.args.followers.now) c.args.lines.now c.args.nets c.args.to c.args.first)
          c.args.calendar.now c.loop-number.calendar c.note_changes.new.calendar c.loop-number.invariant.ticks.horizon
          (follower-parts c.args.word c.args.followers.now i inside c.args.lines.now none c.args.nets c.args.to c.args.first)
          (follower-before c.args.word c.args.followers.now i inside c.args.lines.now none c.args.nets c.args.to c.args.first)
          (follower-last c.args.word c.args.followers.now i inside c.args.lines.now none c.args.nets c.args.to c.args.first (c.requires.within i 0 inside))
          c.loop-number.invariant.notes c.in_ok-note_changes.ensures.notes;
      ticks = ticks-on c.args.calendar.now c.loop-number.calendar c.note_changes.new.calendar c.loop-number.invariant.ticks c.note_changes.ensures.ticks;
    }

pub returns-clause-notes : goal.returns-clause-notes
returns-clause-notes c =
    subst (λ (numbers : List ℕ). NotesEach (IsOfFollower c.args.word numbers c.args.lines.now c.args.nets c.args.to c.args.first) c.args.calendar.now c.loop-number.calendar)
    (take_all c.loop-number.number-index c.args.followers.now (omega arith)) c.loop-number.invariant.notes
