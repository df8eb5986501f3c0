use Rattle.std.proofs.Common.{◌≡◌, ◌+◌, ◌≤◌, length}
use Rattle.cmb_bench.specs.Inner.Scan.{scan}
use Rattle.cmb_bench.proofs.text.Cursor.skip_blanks.Given as goal

abbrev pub invariant-loop-rest : goal.invariant-loop-rest
invariant-loop-rest l = record {
  same : scan l.fn.self ≡ scan l.self;
  fits : l.self.line + length l.self.rest.now ≤ l.fn.self.line + length l.fn.self.rest.now;
  shorter : length l.self.rest.now ≤ length l.fn.self.rest.now;
}

abbrev pub decreases-loop-rest : goal.decreases-loop-rest
decreases-loop-rest l = length l.self.rest.now
