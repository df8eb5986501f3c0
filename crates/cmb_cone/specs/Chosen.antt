-- Nets that are chosen by a list.
use Rattle.std.specs.Prelude.{ℕ, List}
use Rattle.std.specs.List.{filter, range_with_len}
use Rattle.cmb_cone.specs.Restriction.{is_among}

-- the nets of a list among so many, each once, by rising number
abbrev pub each_once : ℕ → List ℕ → List ℕ
each_once count nets = filter (is_among nets) (range_with_len 0 count)
