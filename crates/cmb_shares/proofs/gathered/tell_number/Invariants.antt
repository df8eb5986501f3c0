use Rattle.std.proofs.Common.{◌+◌, ◌≤◌, length, vec_len, vec_capacity}
use Rattle.cmb_shares.specs.Inner.Gatherings.{table_of}
use Rattle.cmb_shares.proofs.GatherFacts.{IsTelling}
use Rattle.cmb_shares.proofs.gathered.tell_number.Given as goal

abbrev pub invariant-loop-place : goal.invariant-loop-place
invariant-loop-place l = record {
  telling : IsTelling (table_of l.words l.marks) l.k l.place-iterator l.all.items;
  room : vec_len l.all + length l.place-iterator ≤ vec_capacity l.all;
}
