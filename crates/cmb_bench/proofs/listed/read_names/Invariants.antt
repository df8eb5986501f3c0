use Rattle.std.proofs.Common.{◌≡◌, ◌+◌, ◌≤◌, ℕ, List, length}
use Rattle.std.specs.Prelude.{◌||◌}
use Rattle.cmb_bench.specs.Inner.Scan.{scan}
use Rattle.cmb_bench.specs.Listed.{is_said, unknown_line}
use Rattle.cmb_bench.specs.Statement.{is_member}
use Rattle.cmb_bench.proofs.listed.read_names.Given as goal

abbrev pub invariant-loop-cursor : goal.invariant-loop-cursor
invariant-loop-cursor l = record {
  known : unknown_line l.netlist (scan l.initial.cursor) ≡ unknown_line l.netlist (scan l.cursor);
  said : (name : List ℕ) → (is_member name l.said.keys || is_said (scan l.cursor) name) ≡ is_said (scan l.initial.cursor) name;
  fits : l.cursor.line + length l.cursor.rest.now ≤ l.initial.cursor.line + length l.initial.cursor.rest.now;
}

abbrev pub decreases-loop-cursor : goal.decreases-loop-cursor
decreases-loop-cursor l = length l.cursor.rest.now
