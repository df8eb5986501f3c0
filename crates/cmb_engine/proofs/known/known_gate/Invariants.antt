use Rattle.std.proofs.Common.{◌≡◌, ◌<◌, ◌≤◌, ℕ, map, take}
use Rattle.cmb_words.specs.Bits.{level_in}
use Rattle.cmb_words.specs.Joint.{joint}
use Rattle.cmb_engine.specs.Inner.Cells.{seen}
use Rattle.cmb_engine.specs.Inner.Known.{known_levels}
use Rattle.cmb_engine.proofs.known.known_gate.Given as goal

abbrev pub invariant-loop-k : goal.invariant-loop-k
invariant-loop-k l = (place : ℕ) → l.first ≤ place → place < 64 → level_in l.joined 0 place ≡ joint l.kind (map (seen (known_levels l.ones) place) (take l.k l.pins))
