use Rattle.std.proofs.Common.{◌≡◌, ℕ, ◌+◌, ◌-◌, ◌<◌, ◌≤◌, List, [], length, sym, subst, arith}
use Rattle.std.specs.Prelude.{All, Contains}
use Rattle.std.proofs.lemmas.Result.{on_ok_weaker}
use Rattle.cmb_netlist.specs.Netlist.{Netlist}
use Rattle.cmb_design_model.specs.Timing.{delay}
use Rattle.cmb_design_model.specs.Value.{value}
use Rattle.cmb_engine.specs.Crossings.{IsWithinLookahead}
use Rattle.cmb_engine.specs.Inner.Cells.{Cell}
use Rattle.cmb_engine.specs.Inner.Circuits.{IsGroup, IsGroupWithin, Shows}
use Rattle.cmb_engine.specs.Inner.Exports.{slots_of, AddsAhead, AreTakenBefore}
use Rattle.cmb_engine.specs.Inner.Traces.{trace_of}
use Rattle.cmb_engine.specs.Inner.Words.{levels_of}
use Rattle.cmb_engine.specs.Shares.{ShareEngine, TellsThose}
use Rattle.cmb_engine.specs.declared.group.Group.{Group}
use Rattle.cmb_engine.proofs.ExportFacts.{exports-few, exports-taken, exports-tell}
use Rattle.cmb_engine.proofs.GroupFacts.{groups-within}
use Rattle.cmb_engine.proofs.WindowFacts.{window-wired}
use Rattle.cmb_engine.proofs.share.ShareEngine.tell_ahead.Goals as goal
use Rattle.cmb_engine.proofs.share.ShareEngine.tell_ahead.Goals.{After-tell_groups}

pub tell_groups-requires-clause-taken : goal.tell_groups-requires-clause-taken
tell_groups-requires-clause-taken c =
    subst (λ (groups : List Group). All (λ group. AreTakenBefore group.clock group.delay c.args.upto (64 - (c.args.upto - c.self.inside.state.clock))) groups) (sym c.as_slice.ensures.value)
    (exports-taken c.self.inside.design.now c.self.inside.circuit c.self.invariant.0 c.self.invariant.2 c.self.inside.state.clock c.args.upto
    (subst (λ (e : ShareEngine). e.clock < c.args.upto) (sym c.self.view_is) c.requires.later)
    (subst (λ (e : ShareEngine). c.args.upto ≤ e.clock + e.width) (sym c.self.view_is) c.requires.short)
    c.self.inside.exports.items c.self.invariant.3
    (subst (λ (e : ShareEngine). (net : ℕ) → Contains e.exports net → IsWithinLookahead e.design e.clock c.args.upto net) (sym c.self.view_is) c.requires.ahead)
    (subst (λ (e : ShareEngine). (net : ℕ) → Contains e.exports net → delay e.design net 1 < e.width) (sym c.self.view_is) c.requires.soon))

pub tell_groups-requires-clause-groups : goal.tell_groups-requires-clause-groups
tell_groups-requires-clause-groups c =
    let nets : length c.self.inside.circuit.wiring.cells ≡ length c.self.inside.state.words = sym c.self.invariant.1.slots in
    let short : c.args.upto ≤ c.self.inside.state.clock + c.self.inside.circuit.width = subst (λ (e : ShareEngine). c.args.upto ≤ e.clock + e.width) (sym c.self.view_is) c.requires.short in
    let first : ℕ = 64 - (c.args.upto - c.self.inside.state.clock) in
    subst (All (IsGroupWithin (length c.self.inside.state.words) first)) (sym c.as_slice.ensures.value)
    (groups-within c.self.inside.circuit.wiring.cells c.self.inside.exports.items (length c.self.inside.state.words) first c.self.invariant.3 nets
    (window-wired c.self.inside.circuit.wiring.cells c.self.inside.circuit.wiring.fanout.order c.self.inside.circuit.wiring.fanout.nodes c.self.inside.circuit.wiring.fanout.gates
    c.self.inside.circuit.wiring.fanout.flops c.self.inside.circuit.wiring.flops.items c.self.inside.circuit.wiring.most c.self.invariant.0.wires
    (length c.self.inside.state.words) first nets (omega (arith, short, c.self.invariant.0.plan.fits))).lawful)

pub tell_groups-requires-clause-few : goal.tell_groups-requires-clause-few
tell_groups-requires-clause-few c =
    subst (All (λ group. All (λ slot. slot < 65535) group.flops.items)) (sym c.as_slice.ensures.value)
    (exports-few c.self.inside.design.now c.self.inside.circuit c.self.invariant.0 c.self.inside.exports.items 65535 (subst (λ (netlist : Netlist). length netlist.names ≤ 65535) c.netlist.ensures c.len-nets.ensures.few) c.self.invariant.3)

module _ (c : After-tell_groups) where
  later : c.self.inside.state.clock < c.args.upto
  later = subst (λ (e : ShareEngine). e.clock < c.args.upto) (sym c.self.view_is) c.requires.later

  shows : Shows (levels_of c.self.inside.state.words) (trace_of c.self.inside.design.now c.self.inside.circuit.wiring.roles.items c.self.inside.circuit.lines.items)
      (length c.self.inside.state.words) c.self.inside.state.clock
  shows =
      subst (λ (count : ℕ). Shows (levels_of c.self.inside.state.words) (trace_of c.self.inside.design.now c.self.inside.circuit.wiring.roles.items c.self.inside.circuit.lines.items) count c.self.inside.state.clock)
      (sym c.self.invariant.1.slots) c.self.invariant.1.shows

  tells : ((cells : List Cell) → All (IsGroup cells) c.as_slice.result.now
      → AddsAhead cells c.self.inside.state.words (slots_of c.as_slice.result.now) (c.args.upto - (c.args.upto - c.self.inside.state.clock)) c.args.upto [] c.tell_groups.new.told.items)
      → All (λ one. Contains (slots_of c.self.inside.exports.items) one.net) c.tell_groups.new.told.items
      × TellsThose (Contains (slots_of c.self.inside.exports.items)) (value c.self.inside.design.now) c.self.inside.state.clock c.args.upto c.tell_groups.new.told.items
  tells adds =
      let back : c.args.upto - (c.args.upto - c.self.inside.state.clock) ≡ c.self.inside.state.clock = omega (arith, later) in
      exports-tell c.self.inside.design.now c.self.inside.circuit c.self.invariant.0 c.self.invariant.2 c.self.inside.state.clock c.args.upto later
      (subst (λ (e : ShareEngine). c.args.upto ≤ e.clock + e.width) (sym c.self.view_is) c.requires.short)
      c.self.inside.exports.items c.self.invariant.3 c.self.inside.state.words shows c.tell_groups.new.told.items
      (subst (λ (from : ℕ). AddsAhead c.self.inside.circuit.wiring.cells c.self.inside.state.words (slots_of c.self.inside.exports.items) from c.args.upto [] c.tell_groups.new.told.items) back
      (subst (λ (groups : List Group). AddsAhead c.self.inside.circuit.wiring.cells c.self.inside.state.words (slots_of groups) (c.args.upto - (c.args.upto - c.self.inside.state.clock)) c.args.upto [] c.tell_groups.new.told.items) c.as_slice.ensures.value
      (adds c.self.inside.circuit.wiring.cells (subst (All (IsGroup c.self.inside.circuit.wiring.cells)) (sym c.as_slice.ensures.value) c.self.invariant.3))))

pub returns-clause-only : goal.returns-clause-only
returns-clause-only c =
    on_ok_weaker c.tell_groups.result
    (λ adds. subst (λ (e : ShareEngine). All (λ one. Contains e.exports one.net) c.tell_groups.new.told.items) c.self.view_is (tells c adds).0) c.tell_groups.ensures

pub returns-clause-tells : goal.returns-clause-tells
returns-clause-tells c =
    on_ok_weaker c.tell_groups.result
    (λ adds. subst (λ (e : ShareEngine). TellsThose (Contains e.exports) (value e.design) e.clock c.args.upto c.tell_groups.new.told.items) c.self.view_is (tells c adds).1) c.tell_groups.ensures
