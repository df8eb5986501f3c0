use Rattle.std.proofs.Common.{◌≡◌, ◌≤◌, ◌-◌, ◌<◌, ◌∙◌, sym, arith, Some}
use Rattle.cmb_design_model.specs.Timing.{clock_of, delay, last_sample}
use Rattle.cmb_design_model.specs.Value.{value}
use Rattle.cmb_design_model.proofs.PlainFacts.{cell_within, cell_told, flop_level-late}
use Rattle.cmb_design_model.proofs.SampleFacts.{delay-positive}
use Rattle.cmb_design_model.proofs.plain_cells.level_of_flop.Goals as goal

pub level-requires : goal.level-requires
level-requires c =
    let positive : 1 ≤ delay c.args.design.now c.args.net 1 = delay-positive c.args.design.now c.args.net 1 in
    let below : c.in-Some.sample ≤ c.args.tick - c.delay-ticks.result = c.in-Some.ensures.small in
    let earlier : c.in-Some.sample < c.args.tick = omega (arith, c.delay-ticks.ensures.value) in
    cell_within c.args.design.now c.args.table.now c.args.tick c.args.source c.in-Some.sample c.requires.filled c.requires.source earlier

pub returns-in-Some : goal.returns-in-Some
returns-in-Some c =
    let positive : 1 ≤ delay c.args.design.now c.args.net 1 = delay-positive c.args.design.now c.args.net 1 in
    let below : c.in-Some.sample ≤ c.args.tick - c.delay-ticks.result = c.in-Some.ensures.small in
    let earlier : c.in-Some.sample < c.args.tick = omega (arith, c.delay-ticks.ensures.value) in
    let late : delay c.args.design.now c.args.net 1 ≤ c.args.tick = omega (arith, c.delay-ticks.ensures.value) in
    let told : c.level.result ≡ value c.args.design.now c.args.source c.in-Some.sample = cell_told c.args.design.now c.args.table.now c.args.tick c.args.source c.in-Some.sample c.requires.filled c.requires.source earlier c.level.result c.level.ensures in
    let last : last_sample (clock_of c.args.design.now c.args.net) (c.args.tick - delay c.args.design.now c.args.net 1) ≡ Some c.in-Some.sample = rw (sym c.delay-ticks.ensures.value) (sym c.in-Some.ensures.value) in
    told ∙ sym (flop_level-late c.args.design.now (value c.args.design.now c.args.source) c.args.net c.args.tick c.in-Some.sample late last)
