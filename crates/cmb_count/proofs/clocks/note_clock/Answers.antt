use Rattle.cmb_count.specs.Inner.ClockSets.{has_clock}
use Rattle.cmb_count.proofs.ClockFacts.{noted}
use Rattle.cmb_count.proofs.clocks.note_clock.Goals as goal

pub returns-clause-found : goal.returns-clause-found
returns-clause-found c = λ other.
    noted (has_clock c.args.clocks.now other) (has_clock c.insert.new.self other) c.args.clock other (c.in_ok-insert.ensures.updates.0 (other.first, other.period))
