use Rattle.std.proofs.Common.{◌≡◌, ◌<◌, ◌≤◌, ℕ, map, take}
use Rattle.cmb_words.specs.Joint.{joint}
use Rattle.cmb_words.specs.Word.{level_at_place}
use Rattle.cmb_engine.specs.Inner.Cells.{seen}
use Rattle.cmb_engine.specs.Inner.Words.{levels_of}
use Rattle.cmb_engine.proofs.visit.gate_word.Given as goal

abbrev pub invariant-loop-k : goal.invariant-loop-k
invariant-loop-k l = (place : ℕ) → l.first ≤ place → place < 64 → level_at_place l.joined place ≡ joint l.kind (map (seen (levels_of l.words) place) (take l.k l.pins))
