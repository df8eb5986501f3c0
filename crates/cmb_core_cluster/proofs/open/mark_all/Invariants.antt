use Rattle.std.proofs.Common.{◌≡◌, ℕ, false, ◌||◌, eqb, take, get_or}
use Rattle.std.specs.List.{list_any}
use Rattle.cmb_core_cluster.proofs.open.mark_all.Given as goal

abbrev pub invariant-loop-pin : goal.invariant-loop-pin
invariant-loop-pin l = (net : ℕ) → get_or l.read net false ≡ (list_any (λ pin. eqb pin net) (take l.pin-index l.pins) || get_or l.initial.read net false)
