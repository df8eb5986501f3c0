use Rattle.std.proofs.Common.{◌≡◌, ◌+◌, ◌≤◌, length, take}
use Rattle.std.specs.Char.{is_ascii_digit}
use Rattle.std.specs.List.{suffix_len}
use Rattle.cmb_run_scopes.proofs.bits.digits_at.Given as goal

abbrev pub invariant-loop-at : goal.invariant-loop-at
invariant-loop-at l = record {
  within : l.at ≤ length l.bytes;
  left : l.at + suffix_len is_ascii_digit l.bytes ≡ length l.bytes + suffix_len is_ascii_digit (take l.at l.bytes);
}

abbrev pub decreases-loop-at : goal.decreases-loop-at
decreases-loop-at l = l.at
