-- The ends of lines, which are made once.
use Rattle.std.specs.Prelude.{◌≡◌, ℕ, ◌<◌, List, length, take, slice_index_or}
use Rattle.cmb_run_text.specs.Vcd.{code, line}
use Rattle.cmb_dump.specs.declared.tail.Tail.{Tail}

abbrev pub tail_bytes : Tail → List ℕ
tail_bytes tail = take tail.len tail.bytes

-- a list's tails are those of the nets with these numbers
abbrev pub AreTails : List Tail → Type 0
AreTails tails = (net : ℕ) (d : Tail) → net < length tails → tail_bytes (slice_index_or tails net d) ≡ line (code net)
