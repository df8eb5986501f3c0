use Rattle.std.proofs.Common.{◌≡◌, ◌+◌, ◌≤◌, map, [], length}
use Rattle.cmb_bench.specs.Inner.Scan.{scan}
use Rattle.cmb_bench.specs.Inner.Views.{statement}
use Rattle.cmb_bench.specs.Statement.{driven}
use Rattle.cmb_bench.specs.Inner.Building.{Parses}
use Rattle.cmb_bench.proofs.parser.read_statements.Given as goal

abbrev pub invariant-loop-cursor : goal.invariant-loop-cursor
invariant-loop-cursor l = record {
  parsed : Parses [] (scan l.initial.cursor) (map statement l.items.items) (scan l.cursor);
  named : l.names.keys ≡ driven (map statement l.items.items);
  fits : l.cursor.line + length l.cursor.rest.now ≤ l.initial.cursor.line + length l.initial.cursor.rest.now;
}

abbrev pub decreases-loop-cursor : goal.decreases-loop-cursor
decreases-loop-cursor l = length l.cursor.rest.now
