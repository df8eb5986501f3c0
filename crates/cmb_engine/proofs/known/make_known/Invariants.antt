use Rattle.std.proofs.Common.{◌≡◌, ◌<◌, List, length, map}
use Rattle.std.specs.Prelude.{All}
use Rattle.cmb_engine.specs.Inner.Arrivals.{IsArrival}
use Rattle.cmb_engine.specs.Inner.Cells.{Cell, cell_at}
use Rattle.cmb_engine.specs.Inner.Known.{known_levels}
use Rattle.cmb_engine.specs.Inner.Orders.{Order}
use Rattle.cmb_engine.proofs.BatchFacts.{IsMaking}
use Rattle.cmb_engine.proofs.known.make_known.Given as goal

abbrev pub invariant-loop-place : goal.invariant-loop-place
invariant-loop-place l = record {
  small : All (λ place. place < 64) l.place-iterator;
  len : length l.ones ≡ length l.initial.ones;
  last : IsArrival l.last l.to l.first;
  making : (cells : List Cell) (order : Order) → l.nodes.slots ≡ order.slots → l.nodes.cells ≡ map (cell_at cells) order.slots
      → IsMaking (cell_at cells) order l.to l.first l.batch.base l.batch.places l.place-iterator l.news (known_levels l.initial.ones) (known_levels l.ones);
}
