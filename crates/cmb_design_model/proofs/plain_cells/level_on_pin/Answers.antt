use Rattle.std.proofs.Common.{◌≡◌, ◌≤◌, ◌-◌, ◌<◌, ◌∙◌, sym, arith}
use Rattle.cmb_design_model.specs.Timing.{delay}
use Rattle.cmb_design_model.specs.Value.{value}
use Rattle.cmb_design_model.proofs.PlainFacts.{cell_within, cell_told, delayed-late}
use Rattle.cmb_design_model.proofs.SampleFacts.{delay-positive}
use Rattle.cmb_design_model.proofs.plain_cells.level_on_pin.Goals as goal

pub level-requires : goal.level-requires
level-requires c =
    let positive : 1 ≤ delay c.args.design.now c.args.net c.args.pin = delay-positive c.args.design.now c.args.net c.args.pin in
    let earlier : c.args.tick - c.delay-ticks.result < c.args.tick = omega (arith, c.delay-ticks.ensures.value) in
    cell_within c.args.design.now c.args.table.now c.args.tick c.args.operand (c.args.tick - c.delay-ticks.result) c.requires.filled c.requires.operand earlier

pub returns-else-tick-ticks : goal.returns-else-tick-ticks
returns-else-tick-ticks c =
    let positive : 1 ≤ delay c.args.design.now c.args.net c.args.pin = delay-positive c.args.design.now c.args.net c.args.pin in
    let earlier : c.args.tick - c.delay-ticks.result < c.args.tick = omega (arith, c.delay-ticks.ensures.value) in
    let late : c.delay-ticks.result ≤ c.args.tick = omega arith in
    let told : c.level.result ≡ value c.args.design.now c.args.operand (c.args.tick - c.delay-ticks.result) = cell_told c.args.design.now c.args.table.now c.args.tick c.args.operand (c.args.tick - c.delay-ticks.result) c.requires.filled c.requires.operand earlier c.level.result c.level.ensures in
    told ∙ sym (delayed-late (value c.args.design.now c.args.operand) c.delay-ticks.result c.args.tick late) ∙ rw (sym c.delay-ticks.ensures.value)
