use Rattle.std.proofs.Common.{◌≡◌, length}
use Rattle.cmb_run_text.specs.ReadyCodes.{AreCodes}
use Rattle.cmb_run_text.proofs.ready_codes.Codes.new.Given as goal

abbrev pub invariant-loop-net : goal.invariant-loop-net
invariant-loop-net l = record {
  count : length l.codes.items ≡ l.net;
  right : AreCodes l.codes.items;
}
