use Rattle.std.proofs.Common.{◌≡◌, ◌+◌, take, subst, sym, ◌∙◌, arith, List}
use Rattle.std.proofs.lemmas.List.{take_all}
use Rattle.cmb_wave.specs.declared.level.Change.{Change}
use Rattle.cmb_wave.specs.declared.level.Level.TheVariants.{Zero}
use Rattle.cmb_wheel.specs.Calendars.{Calendar, SameTicks}
use Rattle.cmb_engine.specs.Inner.Lines.{NotesEach}
use Rattle.cmb_engine.proofs.NoteFacts.{ticks-on}
use Rattle.cmb_engine.proofs.StimulusFacts.{IsOfChanges, changes-noted, changes-passed, changes-are_stimulus}
use Rattle.cmb_engine.proofs.stimuli.note_stimulus.Goals as goal
use Rattle.cmb_engine.proofs.stimuli.note_stimulus.Goals.{then-change-gt0+in_ok-note, else-change-gt0}

none : Change
none = record { tick = 0; level = Zero }

pub loop-change-preserved : goal.loop-change-preserved
unfolding none
loop-change-preserved c =
    let changes : List Change = c.stim_changes-change-items.result.now in
    let old : Calendar = c.args.calendar.now in
    elim c.if-change-gt0.branch [
      | then-change-gt0+in_ok-note w ↦ record {
        notes = subst (λ (calendar : Calendar). NotesEach (IsOfChanges (take (c.loop-change.change-index + 1) changes) c.args.net) old calendar) (sym w.calendar-is)
            (changes-noted changes c.loop-change.change-index none c.args.net c.loop-change-test.true old c.loop-change.calendar w.note.new.self c.loop-change.invariant.ticks.horizon
            c.loop-change.invariant.notes w.if-change-gt0.true w.in_ok-note.ensures.notes);
        ticks = subst (λ (calendar : Calendar). SameTicks old calendar) (sym w.calendar-is) (ticks-on old c.loop-change.calendar w.note.new.self c.loop-change.invariant.ticks w.note.ensures.ticks);
      }
      | else-change-gt0 w ↦ record {
        notes = subst (λ (calendar : Calendar). NotesEach (IsOfChanges (take (c.loop-change.change-index + 1) changes) c.args.net) old calendar) (sym w.calendar-is)
            (changes-passed changes c.loop-change.change-index none c.args.net c.loop-change-test.true old c.loop-change.calendar c.loop-change.calendar c.loop-change.invariant.ticks.horizon
            c.loop-change.invariant.notes (omega (arith, w.if-change-gt0.false)));
        ticks = subst (λ (calendar : Calendar). SameTicks old calendar) (sym w.calendar-is) c.loop-change.invariant.ticks;
      }
    ]

pub returns-clause-notes : goal.returns-clause-notes
returns-clause-notes c =
    let all : take c.loop-change.change-index c.stim_changes-change-items.result.now ≡ c.stim_changes-change-items.result.now =
    take_all c.loop-change.change-index c.stim_changes-change-items.result.now (omega (arith, c.loop-change-test.false)) in
    changes-are_stimulus c.args.design.now c.args.net c.args.calendar.now c.loop-change.calendar
    (subst (λ (changes : List Change). NotesEach (IsOfChanges changes c.args.net) c.args.calendar.now c.loop-change.calendar) (all ∙ c.stim_changes-change-items.ensures) c.loop-change.invariant.notes)
