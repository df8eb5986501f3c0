use Rattle.std.proofs.Common.{◌-◌, get_or, sym, ◌∙◌}
use Rattle.cmb_engine.proofs.KnownFacts.{by-ones, known-read}
use Rattle.cmb_engine.proofs.known.seen_ones.Goals as goal

pub returns : goal.returns
returns c = λ place from small.
    by-ones c.delayed.result place (get_or c.args.ones.now c.args.pin.net 0) (place - c.args.pin.delay) small
    (c.delayed.ensures place from small ∙ c.known.ensures (place - c.args.pin.delay))
    ∙ sym (known-read c.args.ones.now c.args.pin.net (place - c.args.pin.delay) c.requires.net)
