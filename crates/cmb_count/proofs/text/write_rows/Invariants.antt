use Rattle.std.proofs.Common.{◌≡◌, ◌++◌, string_bytes, take}
use Rattle.std.specs.List.{flat_map}
use Rattle.cmb_count.specs.Texts.{row}
use Rattle.cmb_count.proofs.text.write_rows.Given as goal

abbrev pub invariant-loop-number : goal.invariant-loop-number
invariant-loop-number l = string_bytes l.text ≡ string_bytes l.fn.text ++ flat_map (λ it. row it.0 it.1.now) (take l.number-index l.rows)
