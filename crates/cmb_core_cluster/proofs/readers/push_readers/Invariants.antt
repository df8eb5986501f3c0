use Rattle.std.proofs.Common.{◌≡◌, ◌<◌, ℕ, length, [], map, take, get_or, ◌++◌}
use Rattle.cmb_core_cluster.proofs.ReaderFacts.{pins_if}
use Rattle.cmb_core_cluster.proofs.readers.push_readers.Given as goal

abbrev pub invariant-loop-operand : goal.invariant-loop-operand
invariant-loop-operand l = (place : ℕ) → place < length l.nodes →
    get_or (map (λ list. list.items) l.readers) place [] ≡ get_or (map (λ list. list.items) l.initial.readers) place [] ++ pins_if l.nodes place l.slot (take l.operand-index l.operands)
