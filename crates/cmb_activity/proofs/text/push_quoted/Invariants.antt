use Rattle.std.proofs.Common.{◌≡◌, ◌++◌, codes, take}
use Rattle.std.specs.List.{flat_map}
use Rattle.cmb_activity.specs.Texts.{doubled}
use Rattle.cmb_activity.proofs.text.push_quoted.Given as goal

abbrev pub invariant-loop-byte : goal.invariant-loop-byte
invariant-loop-byte l = l.text.items ≡ l.fn.text.items ++ (codes "\"" ++ flat_map doubled (take l.byte-index l.name))
