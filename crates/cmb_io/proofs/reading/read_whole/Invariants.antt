use Rattle.std.proofs.Common.{◌≡◌, ◌-◌, ◌<◌, ◌≤◌, length, vec_len}
use Rattle.std.specs.Io.KnownBytes.{Consumes}
use Rattle.cmb_io.specs.Sources.{input_limit}
use Rattle.cmb_io.proofs.reading.read_whole.Given as goal

-- what was read so far is the front of what the source had
abbrev pub invariant-loop-count : goal.invariant-loop-count
invariant-loop-count g l =
    (g.S.Source.failures l.source ≡ g.S.Source.failures l.fn.source)
    × Consumes (g.S.Source.remaining l.fn.source) (g.S.Source.remaining l.source) l.text.items
    × (vec_len l.text ≤ input_limit)
    × (0 < length l.buffer)

abbrev pub decreases-loop-count : goal.decreases-loop-count
decreases-loop-count g l = input_limit - vec_len l.text
