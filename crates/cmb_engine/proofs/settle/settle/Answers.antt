use Rattle.std.proofs.Common.{◌*◌, ℕ, length, subst, sym, ◌∙◌, arith}
use Rattle.cmb_engine.specs.Inner.Bits.{HasNone}
use Rattle.cmb_engine.specs.Inner.Cells.{cell_at}
use Rattle.cmb_engine.specs.Inner.Words.{levels_of}
use Rattle.cmb_engine.proofs.SweepFacts.{ready-moves, none-marked, sweeps-on}
use Rattle.cmb_engine.proofs.settle.settle.Goals as goal

pub returns-in-None-clause-exact : goal.returns-in-None-clause-exact
returns-in-None-clause-exact c = λ truth ready settled below.
    none-marked c.args.wiring.now.cells c.args.wiring.now.fanout.order c.requires.wired.ordered (c.requires.wired.ranked ∙ sym c.requires.wired.nets)
    (levels_of c.loop.words) truth c.loop.marks c.args.to c.args.first
    (omega (arith, c.requires.room, c.loop.invariant.sweeps.room)) (subst (λ (n : ℕ). HasNone c.loop.marks n (64 * length c.loop.marks)) c.at.ensures.walked c.in-None.ensures)
    (ready-moves (levels_of c.args.words.now) (levels_of c.loop.words) truth (cell_at c.args.wiring.now.cells) c.args.to c.args.first c.loop.invariant.sweeps.told ready)
    (c.loop.invariant.sweeps.settled settled)
    (λ net place is l. c.loop.invariant.truer truth ready settled below net place is (omega (arith, c.loop.invariant.from, l)))

pub loop-preserved : goal.loop-preserved
loop-preserved c = record {
  len = c.sweep.ensures.len ∙ c.loop.invariant.len;
  from = omega (arith, c.loop.invariant.from);
  sweeps = sweeps-on (cell_at c.args.wiring.now.cells) c.args.wiring.now.fanout.order c.args.to c.args.first (levels_of c.args.words.now) (levels_of c.loop.words) (levels_of c.sweep.new.words)
      c.args.marks.now c.loop.marks c.sweep.new.marks c.args.live.now c.loop.live c.sweep.new.live c.loop.invariant.sweeps c.sweep.ensures.sweeps;
  truer = λ truth ready settled below.
      c.sweep.ensures.truer truth c.loop.counter c.loop.invariant.from c.loop-test.true
      (ready-moves (levels_of c.args.words.now) (levels_of c.loop.words) truth (cell_at c.args.wiring.now.cells) c.args.to c.args.first c.loop.invariant.sweeps.told ready)
      (c.loop.invariant.sweeps.settled settled) (c.loop.invariant.truer truth ready settled below);
}

pub returns-clause-exact : goal.returns-clause-exact
returns-clause-exact c = λ truth ready settled below net place is l.
    c.loop.invariant.truer truth ready settled below net place is (omega (arith, l, c.loop-test.false))
