use Rattle.std.proofs.Common.{ℕ, ◌+◌, ◌==◌, ap, inl, inr, min, sym, ◌∙◌, arith}
use Rattle.cmb_words.specs.Bits.{is_set_at}
use Rattle.cmb_words.proofs.BitFacts.{mask_from}
use Rattle.cmb_engine.proofs.KnownFacts.{known-other, known-read, known-same, known-steady}
use Rattle.cmb_engine.proofs.known_passes.move_known_slot.Goals as goal
use Rattle.cmb_engine.proofs.known_passes.move_known_slot.Goals.{then-not-are_steady_at, else-not-are_steady_at}

pub returns-clause-others : goal.returns-clause-others
returns-clause-others c = λ m place other. known-other c.args.ones.now c.args.slot m c.advanced_ones-moved.result place other

pub returns-clause-moved : goal.returns-clause-moved
returns-clause-moved c = λ place small.
    known-same c.args.ones.now c.args.slot c.advanced_ones-moved.result place c.requires.slot
    ∙ c.advanced_ones-moved.ensures place small
    ∙ sym (known-read c.args.ones.now c.args.slot (min (place + c.args.ticks) 63) c.requires.slot)

pub returns-clause-steady : goal.returns-clause-steady
unfolding is_set_at
returns-clause-steady c = λ still.
    known-steady c.args.ones.now c.args.slot c.advanced_ones-moved.result 1 c.requires.slot (c.are_steady_at-2.ensures.steady still 1 (omega arith) (λ i from small. ap (λ (b : ℕ). b == 1) (mask_from 1 i from small)))

pub returns-clause-news : goal.returns-clause-news
returns-clause-news c = λ first some set.
    elim c.if-not-are_steady_at.branch [
      | then-not-are_steady_at w ↦ rw w.marks-is (inr w.mark_readers.ensures.marked)
      | else-not-are_steady_at w ↦ inl (known-steady c.args.ones.now c.args.slot c.advanced_ones-moved.result first c.requires.slot (c.are_steady_at.ensures.steady w.if-not-are_steady_at.false first some set))
    ]
