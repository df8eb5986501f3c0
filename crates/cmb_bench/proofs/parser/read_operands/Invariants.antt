use Rattle.std.proofs.Common.{◌≡◌, ◌+◌, ◌≤◌, length}
use Rattle.cmb_bench.specs.Inner.Scan.{scan}
use Rattle.cmb_bench.specs.Inner.Views.{mentions}
use Rattle.cmb_bench.specs.Inner.Reading.{operands_at}
use Rattle.cmb_bench.proofs.Listing.{with_front}
use Rattle.cmb_bench.proofs.parser.read_operands.Given as goal

abbrev pub invariant-loop-operands : goal.invariant-loop-operands
invariant-loop-operands l = record {
  same : with_front (mentions l.operands.items) (operands_at l.cell (scan l.cursor)) ≡ operands_at l.cell (scan l.initial.cursor);
  shorter : length l.cursor.rest.now ≤ length l.initial.cursor.rest.now;
  fits : l.cursor.line + length l.cursor.rest.now ≤ l.initial.cursor.line + length l.initial.cursor.rest.now;
}

abbrev pub decreases-loop-operands : goal.decreases-loop-operands
decreases-loop-operands l = length l.cursor.rest.now
