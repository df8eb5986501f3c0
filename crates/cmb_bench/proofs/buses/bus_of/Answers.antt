use Rattle.std.proofs.Common.{sym, ◌∙◌}
use Rattle.cmb_bench.proofs.BusFacts.{bus_here, bus_next, bus_nowhere}
use Rattle.cmb_bench.proofs.buses.bus_of.Goals as goal

pub returns-then-has_index_at : goal.returns-then-has_index_at
returns-then-has_index_at c = bus_here c.args.name.now c.loop-place.place c.loop-place-test.true (sym c.has_index_at.ensures ∙ c.if-has_index_at.true) c.loop-place.invariant

pub loop-place-preserved : goal.loop-place-preserved
loop-place-preserved c = bus_next c.args.name.now c.loop-place.place c.loop-place-test.true (sym c.has_index_at.ensures ∙ c.if-has_index_at.false) c.loop-place.invariant

pub returns : goal.returns
returns c = bus_nowhere c.args.name.now c.loop-place.place c.loop-place-test.false c.loop-place.invariant
