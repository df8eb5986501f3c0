use Rattle.std.proofs.Common.{◌-◌, if◌then◌else◌, sym, ap₂, ◌∙◌}
use Rattle.cmb_words.specs.Bits.{level_in}
use Rattle.cmb_engine.proofs.ArrivalFacts.{arrives-at}
use Rattle.cmb_engine.proofs.KnownFacts.{known-read}
use Rattle.cmb_engine.proofs.known.known_flop.Goals as goal

pub returns-clause-from : goal.returns-clause-from
returns-clause-from c = λ place from small.
    let arrival = c.arrival_of-arrival.result in
    let own = c.arrival_of-arrival.ensures in
    c.held_known.ensures.from place from small
    ∙ ap₂ (λ b level. if b then level else level_in c.held_known.result 0 (place - 1))
    (sym (arrives-at arrival c.args.to c.args.first own.arrival c.args.clock c.args.pin.delay own.clock own.delay place from small))
    (sym (known-read c.args.ones.now c.args.pin.net (place - c.args.pin.delay) c.requires.net))
