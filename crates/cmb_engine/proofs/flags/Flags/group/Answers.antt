use Rattle.std.proofs.Common.{◌≡◌, ℕ, ◌+◌, ◌*◌, ◌/◌, ◌%◌, ◌<◌, ◌≤◌, List, length, slice_index, sym, subst, ◌∙◌}
use Rattle.std.specs.Int.{bit_at}
use Rattle.cmb_engine.specs.Inner.Flags.{AreFlags}
use Rattle.cmb_engine.proofs.FlagFacts.{group-bits}
use Rattle.cmb_engine.proofs.flags.Flags.group.Goals as goal

pub returns : goal.returns
returns c =
    let view : c.deref.result.now ≡ c.args.self.now = c.deref.ensures.value ∙ c.self.view_is in
    subst (λ (s : List ℕ). (i : ℕ) → i < 64 → bit_at c.number_of.result i ≡ bit_at (slice_index s (8 * c.args.number + i / 8)) (i % 8)) view
    (group-bits c.self.inside.groups c.args.number c.number_of.result c.deref.result.now (subst (AreFlags c.self.inside.groups) (sym c.deref.ensures.value) c.self.invariant)
    (subst (λ (s : List ℕ). 8 * c.args.number + 8 ≤ length s) (sym view) c.requires) c.number_of.ensures)
