use Rattle.std.proofs.Common.{◌+◌, ◌*◌, ◌<◌, ◌∙◌, ap, arith, ◌++◌, ◌∷◌, []}
use Rattle.cmb_wave.specs.declared.level.Level.{Level}
use Rattle.cmb_design_model.specs.Exact.{nets_of}
use Rattle.cmb_design_model.proofs.PlainFacts.{holds_ticks, cells-push}
use Rattle.cmb_design_model.proofs.plain.fill_tick.Goals as goal

pub level_of_cell-requires-clause-filled : goal.level_of_cell-requires-clause-filled
level_of_cell-requires-clause-filled c =
    holds_ticks c.args.design.now c.loop-net.table (c.args.tick * nets_of c.args.design.now + c.loop-net.net) c.args.tick c.loop-net.invariant (omega arith)

pub loop-net-preserved : goal.loop-net-preserved
loop-net-preserved c =
    let below : c.loop-net.net < nets_of c.args.design.now = omega (arith, c.requires.filled.nets) in
    record {
      nets = c.loop-net.invariant.nets;
      levels =
          c.in_ok-push.ensures.items ∙ ap (λ (level : Level). c.loop-net.table.levels.items ++ level ∷ []) c.in_ok-level.ensures
          ∙ cells-push c.args.design.now c.loop-net.table.levels.items c.loop-net.net c.args.tick below c.loop-net.invariant.levels;
    }
