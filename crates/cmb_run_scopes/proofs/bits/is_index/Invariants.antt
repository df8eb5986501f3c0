use Rattle.std.proofs.Common.{◌≡◌, ◌<◌, take}
use Rattle.cmb_run_scopes.specs.Scopes.{number}
use Rattle.cmb_run_scopes.proofs.bits.is_index.Given as goal

abbrev pub invariant-loop-byte : goal.invariant-loop-byte
invariant-loop-byte l = record {
  read : l.number ≡ number (take l.byte-index l.bytes);
  small : l.number < 2147483648;
}
