use Rattle.std.proofs.Common.{sym, subst, Vec, Global}
use Rattle.std.specs.Prelude.{All}
use Rattle.cmb_engine.specs.Inner.Ends.{IsPaced}
use Rattle.cmb_engine.specs.declared.windows.Pace.{Pace}
use Rattle.cmb_engine.proofs.windows.paces_of.Goals as goal
use Rattle.cmb_engine.proofs.windows.paces_of.Goals.{in-Flop+in_ok-add, in_default}

pub loop-net-preserved : goal.loop-net-preserved
loop-net-preserved c =
    elim c.match-driver.branch [
      | in-Flop+in_ok-add w ↦ subst (λ (paces : Vec Pace Global). All IsPaced paces.items) (sym w.paces-is) w.add.ensures
      | in_default w ↦ subst (λ (paces : Vec Pace Global). All IsPaced paces.items) (sym w.paces-is) c.loop-net.invariant
    ]
