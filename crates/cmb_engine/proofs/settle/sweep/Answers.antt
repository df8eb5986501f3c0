use Rattle.std.proofs.Common.{◌<◌, ◌≡◌, ap, get_or, List, ℕ, length, sym, ◌∙◌, arith, subst}
use Rattle.std.proofs.lemmas.List.{get_or-map}
use Rattle.cmb_engine.specs.Inner.Cells.{Cell, Told, IsLawful, cell_at}
use Rattle.cmb_engine.specs.Inner.Walks.{walked}
use Rattle.cmb_engine.specs.Inner.Words.{levels_of}
use Rattle.cmb_engine.proofs.SweepFacts.{batch-further, batch-sweeps, further-all, ready-moves, sweeps-on}
use Rattle.cmb_engine.proofs.settle.sweep.Goals as goal

pub batches-preserved : goal.batches-preserved
batches-preserved c =
    let fanout = c.args.wiring.now.fanout in
    let sweeps = c.batches.invariant.sweeps in
    let places : ℕ = c.in-Some.batch.places in
    let base : ℕ = c.in-Some.batch.base in
    let news : ℕ = c.make_words-places.result in
    record {
      len = c.make_words-places.ensures.len ∙ c.batches.invariant.len;
      last = c.make_words-places.ensures.last;
      sweeps = sweeps-on (cell_at c.args.wiring.now.cells) fanout.order c.args.to c.args.first (levels_of c.args.words.now) (levels_of c.batches.words) (levels_of c.make_words-places.new.words)
          c.args.marks.now c.batches.marks c.pass_on.new.marks c.args.live.now c.batches.live c.pass_on.new.live sweeps
          (batch-sweeps c.args.wiring.now.cells fanout.order fanout.nodes fanout.gates fanout.flops (length c.args.words.now) c.args.to c.args.first c.requires.wired c.args.opened c.requires.closed
          (levels_of c.batches.words) (levels_of c.make_words-places.new.words) c.batches.marks c.take.new.self c.pass_on.new.marks c.batches.live c.pass_on.new.live
          (walked c.batches.walk) (walked c.take.new.walk) base places news c.in-Some.ensures (c.make_words-places.ensures.makes c.args.wiring.now.cells fanout.order c.requires.wired.slots_in_order c.requires.wired.in_order) c.pass_on.ensures);
      truer = λ truth upto b.
          let ready = ready-moves (levels_of c.args.words.now) (levels_of c.batches.words) truth (cell_at c.args.wiring.now.cells) c.args.to c.args.first sweeps.told b.ready in
          batch-further c.args.wiring.now.cells fanout.order fanout.nodes fanout.gates fanout.flops (length c.args.words.now) c.args.to c.args.first c.requires.wired c.args.opened c.requires.closed
          (levels_of c.batches.words) (levels_of c.make_words-places.new.words) c.batches.marks c.take.new.self c.pass_on.new.marks c.batches.live c.pass_on.new.live
          (walked c.batches.walk) (walked c.take.new.walk) base places news c.in-Some.ensures (c.make_words-places.ensures.makes c.args.wiring.now.cells fanout.order c.requires.wired.slots_in_order c.requires.wired.in_order) c.pass_on.ensures
          truth upto b.from b.small ready (sweeps.settled b.settled) (c.batches.invariant.truer truth upto b);
    }

pub returns-clause-truer : goal.returns-clause-truer
returns-clause-truer c = λ truth upto from small ready settled below.
    let sweeps = c.batches.invariant.sweeps in
    let now = ready-moves (levels_of c.args.words.now) (levels_of c.batches.words) truth (cell_at c.args.wiring.now.cells) c.args.to c.args.first sweeps.told ready in
    further-all c.args.wiring.now.cells c.args.wiring.now.fanout.order c.requires.wired.ordered (c.requires.wired.ranked ∙ sym c.requires.wired.nets)
    (levels_of c.batches.words) truth c.batches.marks c.args.to c.args.first upto (walked c.batches.walk) now from small (sweeps.settled settled)
    (omega (arith, c.requires.room, sweeps.room)) c.in_default.ensures.0
    (c.batches.invariant.truer truth upto (record { from = from; small = small; ready = ready; settled = settled; below = below }))

pub make_words-places-requires-clause-lawful : goal.make_words-places-requires-clause-lawful
make_words-places-requires-clause-lawful c = λ rank l.
    let cells : List Cell = c.args.wiring.now.cells in
    let slots : List ℕ = c.args.wiring.now.fanout.order.slots in
    let inside : rank < length slots = subst (λ (ranked : List ℕ). rank < length ranked) c.requires.wired.slots_in_order l in
    let stands : cell_at c.args.wiring.now.fanout.nodes.cells rank ≡ cell_at cells (get_or slots rank 0) =
    ap (λ (ns : List Cell). cell_at ns rank) c.requires.wired.in_order ∙ get_or-map (cell_at cells) slots rank 0 Told inside in
    let small : get_or slots rank 0 < length c.args.words.now = omega (arith, c.requires.wired.ordered.within rank inside, c.requires.wired.ranked) in
    subst (λ (n : ℕ). IsLawful n c.args.first (cell_at c.args.wiring.now.fanout.nodes.cells rank)) (sym c.batches.invariant.len)
    (subst (λ (cell : Cell). IsLawful (length c.args.words.now) c.args.first cell) (sym stands) (c.requires.wired.lawful (get_or slots rank 0) small))
