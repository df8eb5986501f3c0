use Rattle.std.proofs.Common.{arith}
use Rattle.cmb_engine.proofs.SampleFacts.{arrivals-now, arrivals-later}
use Rattle.cmb_engine.proofs.arrivals.first_arrival.Goals as goal

pub returns-then-over-eq0-clause-arrives : goal.returns-then-over-eq0-clause-arrives
returns-then-over-eq0-clause-arrives c = λ place from small.
    arrivals-now c.args.clock c.args.delay c.args.to c.args.first place (omega (arith, c.requires.clock.1)) c.requires.window.2 from (omega arith) c.if-over-eq0.true

pub returns-else-over-eq0-clause-arrives : goal.returns-else-over-eq0-clause-arrives
returns-else-over-eq0-clause-arrives c = λ place from small.
    arrivals-later c.args.clock c.args.delay c.args.to c.args.first place (omega (arith, c.requires.clock.1)) c.requires.window.2 from (omega arith) c.if-over-eq0.false
