use Rattle.std.proofs.Common.{◌≡◌, ◌+◌, ◌-◌, ◌<◌, true, ℕ, List, length, sym, subst, arith}
use Rattle.std.specs.Prelude.{All}
use Rattle.cmb_engine.specs.Inner.Bits.{has}
use Rattle.cmb_engine.specs.Inner.Cells.{Cell, IsSteadyFrom, AreMarked, cell_at, readers_at}
use Rattle.cmb_engine.specs.Inner.Circuits.{IsGroup, IsGroupWithin, IsInGroup, Shows}
use Rattle.cmb_engine.specs.Inner.Gifts.{is_written, AreWritten}
use Rattle.cmb_engine.specs.Inner.Roles.{AreToldNets, gives}
use Rattle.cmb_engine.specs.Inner.Tells.{told_level, AreOfWindow}
use Rattle.cmb_engine.specs.Inner.Words.{levels_of}
use Rattle.cmb_engine.specs.declared.group.Group.{Group}
use Rattle.cmb_engine.specs.declared.role.Role.{Role}
use Rattle.cmb_engine.proofs.GivenFacts.{made-kept, unmarked-kept, written-true}
use Rattle.cmb_engine.proofs.GroupFacts.{arrives-flop, groups-within}
use Rattle.cmb_engine.proofs.TraceFacts.{made-inside}
use Rattle.cmb_engine.proofs.WindowFacts.{IsBegun, IsWindow, marked-kept, window-closed, window-lists, window-shows, window-wired}
use Rattle.cmb_engine.proofs.window.go_on.Goals as goal

pub write_told-requires-clause-slots : goal.write_told-requires-clause-slots
write_told-requires-clause-slots c = λ event among.
    let told = c.requires.told event among in
    (omega (arith, told.0, c.move_on.ensures.len), omega (arith, told.2, c.requires.later), omega (arith, told.2, c.requires.fits), told.3)

pub settle-requires : goal.settle-requires
settle-requires c = record {
  wired =
      window-wired c.args.wiring.now.cells c.args.wiring.now.fanout.order c.args.wiring.now.fanout.nodes c.args.wiring.now.fanout.gates c.args.wiring.now.fanout.flops c.args.wiring.now.flops.items
      c.args.wiring.now.most c.requires.wiring
      (length c.write_given.new.words) (64 - c.args.ticks) (omega (arith, c.requires.nets, c.move_on.ensures.len, c.write_told.ensures.writes.len, c.write_given.ensures.writes.len)) (omega (arith, c.requires.fits));
  closed = λ shut.
      window-closed c.args.wiring.now.cells c.args.wiring.now.flops.items c.requires.wiring.flip_flops c.args.to (64 - c.args.ticks)
      (λ clock delay slot place among.
      c.mark_arrivals-opened.ensures.closed shut clock delay slot place (subst (λ (groups : List Group). IsInGroup clock delay slot groups) (sym c.as_slice.ensures.value) among));
  room = omega (arith, c.requires.room, c.move_on.ensures.room, c.write_told.ensures.writes.room, c.write_given.ensures.writes.room, c.mark_arrivals-opened.ensures.room);
  live = omega (arith, c.requires.live, c.move_on.ensures.len, c.move_on.ensures.live, c.write_told.ensures.writes.len, c.write_told.ensures.writes.live_room, c.write_given.ensures.writes.len, c.write_given.ensures.writes.live_room);
  window = (omega (arith, c.requires.fits), omega (arith, c.requires.some), omega (arith, c.requires.later, c.requires.fits), c.requires.to);
}

pub mark_arrivals-opened-requires-clause-groups : goal.mark_arrivals-opened-requires-clause-groups
mark_arrivals-opened-requires-clause-groups c =
    let nets : length c.args.wiring.now.cells ≡ length c.write_given.new.words = omega (arith, c.requires.nets, c.move_on.ensures.len, c.write_told.ensures.writes.len, c.write_given.ensures.writes.len) in
    subst (All (IsGroupWithin (length c.write_given.new.words) (64 - c.args.ticks))) (sym c.as_slice.ensures.value)
    (groups-within c.args.wiring.now.cells c.args.wiring.now.flops.items (length c.write_given.new.words) (64 - c.args.ticks) c.requires.wiring.flip_flops.each nets
    (window-wired c.args.wiring.now.cells c.args.wiring.now.fanout.order c.args.wiring.now.fanout.nodes c.args.wiring.now.fanout.gates c.args.wiring.now.fanout.flops c.args.wiring.now.flops.items
    c.args.wiring.now.most c.requires.wiring (length c.write_given.new.words) (64 - c.args.ticks) nets (omega (arith, c.requires.fits))).lawful)

pub write_given-requires-clause-slots : goal.write_given-requires-clause-slots
write_given-requires-clause-slots c = λ slot gift.
    let gifts : AreToldNets c.args.wiring.now.cells c.deref.result.now =
    subst (λ (roles : List Role). AreToldNets c.args.wiring.now.cells roles) (sym c.deref.ensures.value) c.requires.gives in
    omega (arith, (gifts slot gift).0, c.requires.nets, c.move_on.ensures.len, c.write_told.ensures.writes.len)

pub returns-clause-shows : goal.returns-clause-shows
returns-clause-shows c = λ trace meets shows right given slot place inside small.
    let lists : List (List ℕ) = c.args.wiring.now.fanout.gates in
    let readers : ℕ → List ℕ = readers_at c.args.wiring.now.fanout.order lists in
    let cells : List Cell = c.args.wiring.now.cells in
    let roles : List Role = c.args.wiring.now.roles.items in
    let same_roles : roles ≡ c.deref.result.now = sym c.deref.ensures.value in
    let window : IsWindow (c.args.to - c.args.ticks) c.args.ticks c.args.to (64 - c.args.ticks) c.args.wiring.now.most =
    record { ends = omega (arith, c.requires.later); places = omega (arith, c.requires.fits); begun = omega (arith, c.requires.later); some = c.requires.some; fits = omega (arith, c.requires.fits) } in
    let shown_before : Shows (levels_of c.args.words.now) trace (length cells) (c.args.to - c.args.ticks) = λ s p l. shows s p (omega (arith, l, c.requires.nets)) in
    let tells : AreOfWindow trace (cell_at cells) (gives roles) (length cells) (c.args.to - c.args.ticks) c.args.to c.args.tells.now = subst (λ (n : ℕ). AreOfWindow trace (cell_at cells) (gives roles) n (c.args.to - c.args.ticks) c.args.to c.args.tells.now) (sym c.requires.nets) right in
    let told_words : (s p : ℕ) → s < length cells → p < 64
    → levels_of c.write_told.new.words s p ≡ told_level c.args.tells.now s (levels_of c.move_on.new.words s p) (c.args.to + p - 64) =
    λ s p l. c.write_told.ensures.words s p (omega (arith, l, c.requires.nets, c.move_on.ensures.len)) in
    let writes : AreWritten roles c.args.given.now (levels_of c.write_told.new.words) (levels_of c.write_given.new.words) (64 - c.args.ticks) =
    subst (λ (rs : List Role). AreWritten rs c.args.given.now (levels_of c.write_told.new.words) (levels_of c.write_given.new.words) (64 - c.args.ticks)) (sym same_roles)
    c.write_given.ensures.written in
    let given_news : (s : ℕ) → is_written roles c.args.given.now s ≡ true → AreMarked (has c.write_given.new.marks) (readers s) =
    subst (λ (rs : List Role). (s : ℕ) → is_written rs c.args.given.now s ≡ true → AreMarked (has c.write_given.new.marks) (readers s)) (sym same_roles) c.write_given.ensures.news in
    let begun : IsBegun trace cells c.args.wiring.now.fanout.order readers c.args.wiring.now.most (levels_of c.move_on.new.words) (levels_of c.write_given.new.words)
    c.move_on.new.live c.mark_arrivals-opened.new.marks c.args.to (64 - c.args.ticks) =
    record {
      quiet = λ s p l. c.move_on.ensures.quiet s p (omega (arith, l, c.requires.nets));
      news = λ s l is.
          marked-kept (IsSteadyFrom (levels_of c.move_on.new.words s) (64 - c.args.ticks - c.args.wiring.now.most)) c.move_on.new.marks c.mark_arrivals-opened.new.marks (readers s)
          (λ m h. c.mark_arrivals-opened.ensures.kept m (c.write_given.ensures.writes.marks m (c.write_told.ensures.writes.marks m h)))
          (c.move_on.ensures.news s (omega (arith, l, c.requires.nets)) is);
      kept =
          unmarked-kept trace cells roles (c.args.to - c.args.ticks) c.args.ticks c.args.to (64 - c.args.ticks) c.args.wiring.now.most window
          (levels_of c.args.words.now) (levels_of c.move_on.new.words) (levels_of c.write_told.new.words) (levels_of c.write_given.new.words)
          shown_before c.move_on.ensures.moved c.args.tells.now tells c.args.given.now given c.requires.gives told_words writes readers c.mark_arrivals-opened.new.marks
          (λ event among k l. c.mark_arrivals-opened.ensures.kept _ (c.write_given.ensures.writes.marks _ (c.write_told.ensures.news event among k l)))
          (λ s h k l. c.mark_arrivals-opened.ensures.kept _ (given_news s h k l));
      made = λ s p m l.
          made-kept trace cells roles (c.args.to - c.args.ticks) c.args.ticks c.args.to (64 - c.args.ticks) c.args.wiring.now.most window
          (levels_of c.args.words.now) (levels_of c.move_on.new.words) (levels_of c.write_told.new.words) (levels_of c.write_given.new.words)
          shown_before c.move_on.ensures.moved c.args.tells.now tells c.args.given.now given c.requires.gives told_words writes s p (made-inside cells s m) m l;
      told_true =
          written-true trace cells roles (c.args.to - c.args.ticks) c.args.ticks c.args.to (64 - c.args.ticks) c.args.wiring.now.most window
          (levels_of c.args.words.now) (levels_of c.move_on.new.words) (levels_of c.write_told.new.words) (levels_of c.write_given.new.words)
          shown_before c.move_on.ensures.moved c.args.tells.now tells c.args.given.now given c.requires.gives told_words writes;
      arrivals = λ s p late small h.
          let arrival = arrives-flop (cell_at cells s) (c.args.to + p - 64) h in
          let grouped : IsInGroup arrival.clock arrival.delay s c.as_slice.result.now =
          subst (λ (groups : List Group). IsInGroup arrival.clock arrival.delay s groups) (sym c.as_slice.ensures.value)
          (c.requires.wiring.flip_flops.all s arrival.clock arrival.delay arrival.flop) in
          c.mark_arrivals-opened.ensures.arrivals cells (subst (All (IsGroup cells)) (sym c.as_slice.ensures.value) c.requires.wiring.flip_flops.each) arrival.clock arrival.delay s p grouped late small arrival.arrives;
    } in
    window-shows trace cells c.args.wiring.now.fanout.order c.args.wiring.now.fanout.nodes lists c.args.wiring.now.fanout.flops c.args.wiring.now.flops.items c.args.wiring.now.most
    c.requires.wiring
    meets (c.args.to - c.args.ticks) c.args.ticks c.args.to (64 - c.args.ticks) window
    (levels_of c.args.words.now) (levels_of c.move_on.new.words) (levels_of c.write_given.new.words)
    shown_before c.move_on.ensures.moved
    c.move_on.new.live c.mark_arrivals-opened.new.marks begun (levels_of c.settle.new.words) c.settle.ensures.sweeps.told c.settle.ensures.exact
    slot place (omega (arith, inside, c.requires.nets)) small

pub move_on-requires-clause-lists : goal.move_on-requires-clause-lists
move_on-requires-clause-lists c =
    window-lists c.args.wiring.now.cells c.args.wiring.now.fanout.order c.args.wiring.now.fanout.nodes c.args.wiring.now.fanout.gates c.args.wiring.now.fanout.flops c.args.wiring.now.flops.items
    c.args.wiring.now.most c.requires.wiring _ c.requires.nets

pub move_on-requires-clause-within : goal.move_on-requires-clause-within
move_on-requires-clause-within c = λ place k d small. omega (arith, c.requires.wiring.gates.within place k d small, c.requires.room)

pub write_told-requires-clause-lists : goal.write_told-requires-clause-lists
write_told-requires-clause-lists c =
    let nets : length c.args.wiring.now.cells ≡ length c.move_on.new.words = omega (arith, c.requires.nets, c.move_on.ensures.len) in
    window-lists c.args.wiring.now.cells c.args.wiring.now.fanout.order c.args.wiring.now.fanout.nodes c.args.wiring.now.fanout.gates c.args.wiring.now.fanout.flops c.args.wiring.now.flops.items
    c.args.wiring.now.most c.requires.wiring _ nets

pub write_told-requires-clause-within : goal.write_told-requires-clause-within
write_told-requires-clause-within c = λ place k d small. omega (arith, c.requires.wiring.gates.within place k d small, c.requires.room, c.move_on.ensures.room)

pub write_told-requires-clause-live : goal.write_told-requires-clause-live
write_told-requires-clause-live c = omega (arith, c.requires.live, c.move_on.ensures.len, c.move_on.ensures.live)

pub write_given-requires-clause-lists : goal.write_given-requires-clause-lists
write_given-requires-clause-lists c =
    let nets : length c.args.wiring.now.cells ≡ length c.write_told.new.words = omega (arith, c.requires.nets, c.move_on.ensures.len, c.write_told.ensures.writes.len) in
    window-lists c.args.wiring.now.cells c.args.wiring.now.fanout.order c.args.wiring.now.fanout.nodes c.args.wiring.now.fanout.gates c.args.wiring.now.fanout.flops c.args.wiring.now.flops.items
    c.args.wiring.now.most c.requires.wiring _ nets

pub write_given-requires-clause-within : goal.write_given-requires-clause-within
write_given-requires-clause-within c = λ place k d small. omega (arith, c.requires.wiring.gates.within place k d small, c.requires.room, c.move_on.ensures.room, c.write_told.ensures.writes.room)

pub write_given-requires-clause-live : goal.write_given-requires-clause-live
write_given-requires-clause-live c = omega (arith, c.requires.live, c.move_on.ensures.len, c.move_on.ensures.live, c.write_told.ensures.writes.len, c.write_told.ensures.writes.live_room)

pub mark_arrivals-opened-requires-clause-room : goal.mark_arrivals-opened-requires-clause-room
mark_arrivals-opened-requires-clause-room c = omega (arith, c.requires.room, c.move_on.ensures.room, c.write_told.ensures.writes.room, c.write_given.ensures.writes.room)

pub mark_arrivals-opened-requires-clause-ranked : goal.mark_arrivals-opened-requires-clause-ranked
mark_arrivals-opened-requires-clause-ranked c = omega (arith, c.requires.wiring.ranked, c.requires.nets, c.move_on.ensures.len, c.write_told.ensures.writes.len, c.write_given.ensures.writes.len)
