-- What the calendar of an engine that begins has.
use Rattle.std.proofs.Common.{◌≡◌, ◌⊎◌, inl, inr, ℕ, ◌+◌, ◌<◌, List, [], length, sym, ap, subst, ◌∙◌, arith}
use Rattle.std.specs.Prelude.{Contains}
use Rattle.cmb_wheel.specs.Calendars.{Calendar, SameTicks}
use Rattle.cmb_wheel.specs.declared.event.LevelEvent.{LevelEvent}
use Rattle.cmb_wave.specs.declared.level.Level.{Level}
use Rattle.cmb_design_model.specs.Design.{Design}
use Rattle.cmb_design_model.specs.Exact.{nets_of}
use Rattle.cmb_engine.specs.Inner.Planes.{Planes}
use Rattle.cmb_engine.specs.Inner.Ahead.{TellsAhead}
use Rattle.cmb_engine.specs.Inner.Cells.{Cell}
use Rattle.cmb_engine.specs.Inner.Circuits.{Shows}
use Rattle.cmb_engine.specs.Inner.Lines.{NotesEach}
use Rattle.cmb_engine.specs.Inner.Starts.{IsOfInput, IsOfStart}
use Rattle.cmb_engine.specs.Inner.States.{IsCircuit}
use Rattle.cmb_engine.specs.Inner.Traces.{IsPlan, trace_of}
use Rattle.cmb_engine.specs.Inner.Words.{levels_of}
use Rattle.cmb_engine.specs.declared.cell.Pin.{Pin}
use Rattle.cmb_engine.specs.declared.circuit.Circuit.{Circuit}
use Rattle.cmb_engine.specs.declared.role.Role.{Role}
use Rattle.cmb_engine.proofs.StartFacts.{starts-told}

-- the words of a circuit's slots
pub words-show : (design : Design) (circuit : Circuit) (words : List Planes) (roles : List Role) (lines : List Pin) → IsCircuit design circuit → roles ≡ circuit.wiring.roles.items → lines ≡ circuit.lines.items
    → Shows (levels_of words) (trace_of design roles lines) (nets_of design + length lines) 1
    → Shows (levels_of words) (trace_of design circuit.wiring.roles.items circuit.lines.items) (length circuit.wiring.cells) 1
words-show design circuit words roles lines is same_roles same_lines shows =
    subst (λ (n : ℕ). Shows (levels_of words) (trace_of design circuit.wiring.roles.items circuit.lines.items) n 1) (sym is.plan.count)
    (subst (λ (ls : List Pin). Shows (levels_of words) (trace_of design circuit.wiring.roles.items ls) (nets_of design + length ls) 1) same_lines
    (subst (λ (rs : List Role). Shows (levels_of words) (trace_of design rs lines) (nets_of design + length lines) 1) same_roles shows))

module _ (design : Design) (roles : List Role) (lines : List Pin) (most width : ℕ) (cells : List Cell) (plan : IsPlan design roles lines most width cells) (words : ℕ → ℕ → Level)
    (shows : Shows words (trace_of design roles lines) (nets_of design + length lines) 1) (empty noted started : Calendar) (none : empty.tells ≡ [])
    (ends : empty.horizon ≡ design.horizon) (zero : empty.clock ≡ 0) (first : SameTicks empty noted) (second : SameTicks noted started)
    (inputs : NotesEach (IsOfInput design roles) empty noted) (starts : NotesEach (IsOfStart words lines (nets_of design)) noted started) where
  noted-below : (event : LevelEvent) → Contains noted.tells event → event.tick < design.horizon
  noted-below event h = go ((inputs event).0 h)
    where
      go : Contains empty.tells event ⊎ (IsOfInput design roles event × (event.tick < empty.horizon)) → event.tick < design.horizon
      go (inl h) = absurd (omega (arith, h.1, ap length none))
      go (inr h) = omega (arith, h.1, ends)

  started-below : (event : LevelEvent) → Contains started.tells event → event.tick < design.horizon
  started-below event h = go ((starts event).0 h)
    where
      go : Contains noted.tells event ⊎ (IsOfStart words lines (nets_of design) event × (event.tick < noted.horizon)) → event.tick < design.horizon
      go (inl h) = noted-below event h
      go (inr h) = omega (arith, h.1, first.horizon, ends)

  pub starts-ahead : TellsAhead design roles lines cells 1 started
  starts-ahead = record {
    same_horizon = second.horizon ∙ first.horizon ∙ ends;
    before = omega (arith, second.clock, first.clock, zero);
    below = started-below;
    told = starts-told design roles lines most width cells plan words shows empty noted started none ends first.horizon inputs starts;
  }
