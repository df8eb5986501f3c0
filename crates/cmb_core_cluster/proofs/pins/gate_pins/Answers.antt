use Rattle.std.proofs.Common.{◌+◌, ◌<◌, List, length, arith, ap, ◌∙◌}
use Rattle.std.proofs.lemmas.List.{length_push, take_all}
use Rattle.cmb_core_cluster.specs.declared.process.ProcessPin.{ProcessPin}
use Rattle.cmb_core_cluster.specs.Inner.Processes.{delayed_levels}
use Rattle.cmb_core_cluster.proofs.PinLists.{late_step, ready_step}
use Rattle.cmb_core_cluster.proofs.pins.gate_pins.Goals as goal

pub loop-operand-preserved : goal.loop-operand-preserved
loop-operand-preserved c =
    let i = c.loop-operand.operand-index in
    let os = c.args.operands.now in
    let here : i < length os = omega arith in
    let none : ProcessPin = record { net = 0; slot = 0; delay = 0 } in
    rw c.in_ok-push.ensures.items (record {
      late = λ t h. late_step c.args.waves.now c.loop-operand.pins.items c.pin_of.result os i none t here (c.loop-operand.invariant.late t h) (c.pin_of.ensures t h);
      count = length_push c.loop-operand.pins.items c.pin_of.result ∙ ap (λ n. n + 1) c.loop-operand.invariant.count;
      ready = ready_step c.args.waves.now c.args.clock os i none here c.loop-operand.invariant.ready;
    })

pub returns-clause-levels : goal.returns-clause-levels
returns-clause-levels c = λ t h.
    c.loop-operand.invariant.late t h
    ∙ ap (λ (os : List ProcessPin). delayed_levels c.args.waves.now os t) (take_all c.loop-operand.operand-index c.args.operands.now c.loop-operand-test.false)

pub returns-clause-count : goal.returns-clause-count
returns-clause-count c = omega (arith, c.loop-operand.invariant.count, c.loop-operand-test.false, c.loop-operand.auto.operand-index-end)
