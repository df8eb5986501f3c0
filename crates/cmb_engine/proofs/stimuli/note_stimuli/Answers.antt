use Rattle.std.proofs.Common.{◌+◌, ◌<◌, List, subst, sym, ap, ◌∙◌, arith, length}
use Rattle.std.proofs.lemmas.Bool.{false≢true}
use Rattle.cmb_netlist.specs.Netlist.{Netlist}
use Rattle.cmb_wheel.specs.Calendars.{Calendar, SameTicks}
use Rattle.cmb_design_model.specs.Design.{Design}
use Rattle.cmb_design_model.specs.Exact.{nets_of}
use Rattle.cmb_engine.specs.Inner.Lines.{NotesEach}
use Rattle.cmb_engine.specs.Inner.Starts.{IsOfInput}
use Rattle.cmb_engine.specs.declared.role.Role.{Role}
use Rattle.cmb_engine.proofs.NoteFacts.{ticks-on}
use Rattle.cmb_engine.proofs.StimulusFacts.{inputs-all, inputs-noted, inputs-passed}
use Rattle.cmb_engine.proofs.stimuli.note_stimuli.Goals as goal
use Rattle.cmb_engine.proofs.stimuli.note_stimuli.Goals.{then-is_driven_input+in_ok-note_stimulus, else-is_driven_input}

pub loop-net-preserved : goal.loop-net-preserved
loop-net-preserved c =
    let design : Design = c.args.design.now in
    let roles : List Role = c.args.roles.now in
    let old : Calendar = c.args.calendar.now in
    let inside : c.loop-net.net < nets_of design =
    omega (arith, ap (λ (netlist : Netlist). length netlist.names) c.netlist.ensures, c.loop-net-test.true, c.len-net-end.ensures.value) in
    elim c.if-is_driven_input.branch [
      | then-is_driven_input+in_ok-note_stimulus w ↦ record {
        notes = subst (λ (calendar : Calendar). NotesEach (λ event. IsOfInput design roles event × (event.slot < c.loop-net.net + 1)) old calendar) (sym w.calendar-is)
            (inputs-noted design roles c.loop-net.net old c.loop-net.calendar w.note_stimulus.new.calendar c.loop-net.invariant.ticks.horizon c.loop-net.invariant.notes inside
            (c.is_driven_input.ensures.so w.if-is_driven_input.true) w.in_ok-note_stimulus.ensures.notes);
        ticks = subst (λ (calendar : Calendar). SameTicks old calendar) (sym w.calendar-is) (ticks-on old c.loop-net.calendar w.note_stimulus.new.calendar c.loop-net.invariant.ticks w.note_stimulus.ensures.ticks);
      }
      | else-is_driven_input w ↦ record {
        notes = subst (λ (calendar : Calendar). NotesEach (λ event. IsOfInput design roles event × (event.slot < c.loop-net.net + 1)) old calendar) (sym w.calendar-is)
            (inputs-passed design roles c.loop-net.net old c.loop-net.calendar c.loop-net.calendar c.loop-net.invariant.ticks.horizon c.loop-net.invariant.notes
            (λ is driven. false≢true (sym w.if-is_driven_input.false ∙ c.is_driven_input.ensures.all is driven)));
        ticks = subst (λ (calendar : Calendar). SameTicks old calendar) (sym w.calendar-is) c.loop-net.invariant.ticks;
      }
    ]

pub returns-clause-notes : goal.returns-clause-notes
returns-clause-notes c =
    inputs-all c.args.design.now c.args.roles.now c.loop-net.net c.args.calendar.now c.loop-net.calendar
    (omega (arith, ap (λ (netlist : Netlist). length netlist.names) c.netlist.ensures, c.loop-net-test.false, c.len-net-end.ensures.value)) c.loop-net.invariant.notes
