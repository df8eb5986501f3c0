use Rattle.cmb_engine.proofs.EndFacts.{ending-ahead, have-ticks}
use Rattle.cmb_engine.proofs.windows.Windows.between.Goals as goal
use Rattle.cmb_engine.proofs.windows.Windows.between.Goals.{then-are_long, else-are_long}

pub returns-clause-ahead : goal.returns-clause-ahead
returns-clause-ahead c =
    elim c.if-are_long.branch [
      | then-are_long w ↦
          rw w.result-is
          (ending-ahead c.args.design.now c.args.crossing.now c.args.width c.horizon.result c.add_crossing.new.paces.items (c.in_ok-add_crossing.ensures.ending c.if-not-branch.false))
      | else-are_long w ↦ rw w.result-is tt
    ]

pub returns-clause-each : goal.returns-clause-each
returns-clause-each c =
    elim c.if-are_long.branch [
      | then-are_long w ↦
          rw w.result-is (have-ticks c.args.width c.horizon.result c.add_crossing.new.paces.items c.requires.some (c.in_ok-add_crossing.ensures.paced))
      | else-are_long w ↦ rw w.result-is tt
    ]
