use Rattle.std.proofs.Common.{◌≡◌, ◌+◌, ◌<◌, ◌≤◌, min, take}
use Rattle.cmb_engine.specs.Windows.{end_by}
use Rattle.cmb_engine.proofs.windows.Windows.end.Given as goal

abbrev pub invariant-loop-pace : goal.invariant-loop-pace
invariant-loop-pace l = record {
  value : l.end ≡ end_by (take l.pace-index l.pace-items) l.clock (min (l.clock + l.fn.self.width) l.fn.self.horizon);
  later : l.clock < l.end;
  short : l.end ≤ l.clock + l.fn.self.width;
  within : l.end ≤ l.fn.self.horizon;
}
